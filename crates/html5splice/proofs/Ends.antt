-- Where the last token of a text ends.
use Rattle.std.proofs.Common.{◌≡◌, ℕ, ◌+◌, Bool, true, false, List, [], ◌∷◌, ◌++◌, length, refl, ap, sym, ◌∙◌, subst, arith}
use Rattle.std.specs.Prelude.{drop, encode_utf8, encode_utf8_all, if◌then◌else◌}
use Rattle.std.proofs.Math.Seq.{drop-append_seam}
use Rattle.std.proofs.lemmas.List.{append-nil, append_assoc, length-append, map-append}
use Rattle.html5ever_interface.specs.Sink.{Message, on_line}
use Rattle.html5ever_interface.specs.Token.{Told}
use Rattle.html5ever_interface.specs.Token.Told.{End, Error, Text}
use Rattle.html5feed.specs.Beginning.{is_after_less_than}
use Rattle.html5feed.specs.Feed.{told_at_end}
use Rattle.html5reading.specs.EndOfInput.{late_at_end_of, open_at_end_of, raw_end_error, told_at_doctype_end, told_at_end_of, told_at_raw_end, tokens_at_end}
use Rattle.html5reading.specs.NormalisedText.{normalised, line_after}
use Rattle.html5reading.specs.RawText.{texts}
use Rattle.html5reading.specs.Reading.{after, messages, start_after, told}
use Rattle.html5reading.specs.Reference.{opened_in}
use Rattle.html5reading.specs.Slice.{tokens_of_late}
use Rattle.html5reading.specs.Start.{Open, Rules, Stand, Start}
use Rattle.html5reading.specs.Start.Mode.{Data, Plain, RawText, Cdata}
use Rattle.html5reading.specs.Start.Stand.{InText, InAttribute}
use Rattle.html5reading.specs.Start.Open.{Between, LessThan, LessThanSolidus, InTag, InRaw, InDeclaration, InComment, InBogusComment, InInstruction, InDoctype, InDoctypeKeyword, InCdata, InReference}
use Rattle.html5reading.proofs.ReadingLemmas.{reading-events, messages-at_end}
use Rattle.html5reading.proofs.Traces.{messages-append}
use Rattle.html5places.specs.Marks.{Marks, Placed, marks_after, no_marks}
use Rattle.html5places.specs.Placed.{Beginning, all_handed, at_character, at_end, at_first_byte, begun_where, end_from, handed, is_error, marks_after_all, marks_from, marks_of, marks_past, placed_at_end, placed_by, placed_from, placed_tokens, standard, told_at}
use Rattle.html5places.proofs.ManyCharacters.{to-after, to-past}
use Rattle.html5splice.specs.Splicing.{end_of}

-- ---- the last message of a text is the end

abbrev EndsWithEnd : List Told → Type 0
EndsWithEnd tokens = (before : List Told) × (tokens ≡ before ++ End ∷ [])

ends-after : (first : List Told) (tokens : List Told) → EndsWithEnd tokens → EndsWithEnd (first ++ tokens)
ends-after first tokens ends = (first ++ ends.0, ap (λ l. first ++ l) ends.1 ∙ sym (append_assoc first ends.0 (End ∷ [])))

ends-alone : EndsWithEnd (End ∷ [])
ends-alone = ([], refl)

ends-second : (token : Told) (tokens : List Told) → EndsWithEnd tokens → EndsWithEnd (token ∷ tokens)
ends-second token tokens ends = (token ∷ ends.0, ap (λ l. token ∷ l) ends.1)

ends-stand : (exact : Bool) (stand : Stand) (held : List ℕ) → EndsWithEnd (told_at_end_of exact (opened_in stand held))
unfolding told_at_end_of
ends-stand exact (InText Data) held = ends-alone
ends-stand exact (InText Plain) held = ends-alone
ends-stand exact (InText Cdata) held = ends-second _ (End ∷ []) ends-alone
ends-stand exact (InText (RawText raw name)) held = ends-after (raw_end_error exact raw) (End ∷ []) ends-alone
ends-stand exact (InAttribute kind tag) held = ends-second _ (End ∷ []) ends-alone

ends-open : (rules : Rules) (opened : Open) → EndsWithEnd (told_at_end_of rules.exact (open_at_end_of rules opened))
unfolding told_at_end_of open_at_end_of
ends-open rules (Between Data) = ends-alone
ends-open rules (Between Plain) = ends-alone
ends-open rules (Between Cdata) = ends-second _ (End ∷ []) ends-alone
ends-open rules (Between (RawText raw name)) = ends-after (raw_end_error rules.exact raw) (End ∷ []) ends-alone
ends-open rules LessThan = ends-second _ _ (ends-second _ (End ∷ []) ends-alone)
ends-open rules LessThanSolidus = ends-second _ _ (ends-second _ _ (ends-second _ (End ∷ []) ends-alone))
ends-open rules (InTag place tag) = ends-second _ (End ∷ []) ends-alone
ends-open rules (InRaw place name) = ends-after (told_at_raw_end rules.exact place) (End ∷ []) ends-alone
ends-open rules (InDeclaration held) = ends-second _ (End ∷ []) ends-alone
ends-open rules (InComment text) = ends-second _ _ (ends-second _ (End ∷ []) ends-alone)
ends-open rules (InBogusComment text) = ends-second _ (End ∷ []) ends-alone
ends-open rules (InInstruction text) = ends-second _ _ (ends-second _ (End ∷ []) ends-alone)
ends-open rules (InDoctype place d) = ends-after (told_at_doctype_end rules.exact place d) (End ∷ []) ends-alone
ends-open rules (InDoctypeKeyword held d) = ends-after (told_at_doctype_end rules.exact _ _) (End ∷ []) ends-alone
ends-open rules (InCdata held) = ends-after (texts held) _ (ends-second _ (End ∷ []) ends-alone)
ends-open rules (InReference stand held) = ends-stand rules.exact stand _

ends-tokens : (rules : Rules) (opened : Open) → EndsWithEnd (tokens_at_end rules opened)
ends-tokens rules opened = ends-after (tokens_of_late (late_at_end_of rules opened)) _ (ends-open rules opened)

module _ (rules : Rules) (K : Start) (X : List ℕ) where
  abbrev opened-after : Open
  opened-after = (after standard.step standard.reply standard.foreign rules K tt X).opened

  abbrev line-after : ℕ
  line-after = line_after K.input (normalised K.input X)

  end-messages : told_at_end standard rules K tt X ≡ on_line line-after (tokens_at_end rules opened-after)
  end-messages =
      let so_far : List Message = messages (told standard.step standard.reply standard.foreign rules K tt X) in
      ap (drop (length so_far))
      (ap messages (reading-events standard.step standard.reply standard.foreign rules K tt X)
      ∙ messages-append (told standard.step standard.reply standard.foreign rules K tt X) _
      ∙ ap (λ N. so_far ++ N) (messages-at_end standard.step standard.reply standard.foreign rules K tt X))
      ∙ drop-append_seam so_far _

  last-message : (before : List Message) × (told_at_end standard rules K tt X ≡ before ++ record { token = End; line = line-after } ∷ [])
  last-message =
      let ends : EndsWithEnd (tokens_at_end rules opened-after) = ends-tokens rules opened-after in
      (on_line line-after ends.0, end-messages ∙ ap (on_line line-after) ends.1 ∙ map-append (λ (token : Told). record { token = token; line = line-after }) ends.0 (End ∷ []))

-- ---- where the last token ends

pub end-append : (from : ℕ) (a b : List Placed) → end_of from (a ++ b) ≡ end_of (end_of from a) b
unfolding end_of
end-append from [] b = refl
end-append from (p ∷ a) b = end-append (if is_error p.token then from else p.places.end) a b

end-one : (s : Marks) (told : Told) (line : ℕ) (rest : List Placed) → end_of s.text (handed s told line ++ rest) ≡ end_of (marks_after s told).text rest
unfolding end_of
end-one s (Text text) line rest = refl
end-one s (Error message) line rest = refl
end-one s other line rest = refl

end-all : (s : Marks) (M : List Message) (rest : List Placed) → end_of s.text (all_handed s M ++ rest) ≡ end_of (marks_after_all s M).text rest
unfolding all_handed marks_after_all
end-all s [] rest = refl
end-all s (m ∷ M) rest =
    ap (end_of s.text) (append_assoc (handed s m.token m.line) (all_handed (marks_after s m.token) M) rest)
    ∙ end-one s m.token m.line (all_handed (marks_after s m.token) M ++ rest)
    ∙ end-all (marks_after s m.token) M rest

text-where : (b : Bool) (s : Marks) → (begun_where b s).text ≡ s.text
text-where true s = refl
text-where false s = refl

-- after the end the next run would begin there
text-last : (s : Marks) (M : List Message) (line : ℕ) → (marks_after_all s (M ++ record { token = End; line = line } ∷ [])).text ≡ s.to
unfolding marks_after_all
text-last s [] line = refl
text-last s (m ∷ M) line = text-last (marks_after s m.token) M line ∙ to-after s m.token

module _ (rules : Rules) (K : Start) where
  -- the next run begins where the last token ends
  end-from : (s : Marks) (before text : List ℕ) → end_of s.text (placed_from rules K s before text) ≡ (marks_from rules K s before text).text
  unfolding placed_from marks_from end_of
  end-from s before [] = refl
  end-from s before (c ∷ text) =
      let here : Marks = at_character s c in
      let M : List Message = told_at rules K before c in
      let next : Marks = marks_past rules K s before c in
      let rest : List Placed = placed_from rules K next (before ++ c ∷ []) text in
      end-all here M rest
      ∙ ap (λ n. end_of n rest) (sym (text-where (is_after_less_than (start_after standard rules K tt (before ++ c ∷ [])).opened) (marks_after_all here M)))
      ∙ end-from next (before ++ c ∷ []) text

  to-from : (s : Marks) (before text : List ℕ) → (marks_from rules K s before text).to ≡ s.to + length (encode_utf8_all text)
  unfolding marks_from
  to-from s before [] = omega arith
  to-from s before (c ∷ text) =
      to-from (marks_past rules K s before c) (before ++ c ∷ []) text
      ∙ ap (λ n. n + length (encode_utf8_all text)) (to-past rules K s before c)
      ∙ (let len = length-append (encode_utf8 c) (encode_utf8_all text) in omega (arith, len))

  -- the last token that the end tells ends where the last character does
  end-last : (s : Marks) (text : List ℕ) → end_of s.text (end_from rules K s text) ≡ s.to
  unfolding end_of
  end-last s text =
      let M : List Message = told_at_end standard rules K tt text in
      ap (end_of s.text) (sym (append-nil (all_handed (at_end s) M)))
      ∙ end-all (at_end s) M []
      ∙ ap (λ N. (marks_after_all (at_end s) N).text) (last-message rules K text).1
      ∙ text-last (at_end s) (last-message rules K text).0 (line-after rules K text)

  -- the last token of a text ends at its last byte
  pub end-tokens : (text : List ℕ) → end_of 0 (placed_tokens rules K text) ≡ length (encode_utf8_all text)
  unfolding marks_from
  end-tokens text =
      let B : Beginning = at_first_byte K in
      let marks : Marks = marks_of rules B text in
      let first : end_of 0 (placed_by rules B [] text) ≡ marks.text = end-from no_marks [] text in
      let last : end_of marks.text (placed_at_end rules B text) ≡ marks.to = end-last marks text in
      let to : marks.to ≡ 0 + length (encode_utf8_all text) = to-from no_marks [] text in
      end-append 0 (placed_by rules B [] text) (placed_at_end rules B text)
      ∙ ap (λ n. end_of n (placed_at_end rules B text)) first
      ∙ last
      ∙ (omega (arith, to))
