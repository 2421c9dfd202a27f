-- Each text that is `<!` and `doctype` in any case, then what has no `>`, and then `>`, is one doctype, written out.
use Rattle.std.proofs.Common.{◌≡◌, ℕ, Bool, true, false, List, [], ◌∷◌, ◌++◌, drop, take, length, refl, ap, sym, ◌∙◌, subst}
use Rattle.std.specs.Prelude.{◌==◌, ◌||◌, not, codes}
use Rattle.std.specs.Char.{to_ascii_lowercase}
use Rattle.std.specs.Cmp.Lexicographic.{same_text, bytes_decides}
use Rattle.std.specs.List.{list_all, take-map}
use Rattle.std.specs.Str.{bytes_eq}
use Rattle.std.proofs.lemmas.Bool.{eqb-true, and_parts, not-true}
use Rattle.std.proofs.lemmas.List.{append_assoc, append-nil, take-append-drop}
use Rattle.std.proofs.lemmas.List.Folds.{list_all-append}
use Rattle.html5ever_interface.specs.declared.states.DoctypeIdKind.{DoctypeIdKind}
use Rattle.html5ever_interface.specs.declared.states.DoctypeIdKind.TheVariants.{Public, System}
use Rattle.html5reading.specs.Characters.{quotation_mark, apostrophe, greater_than, is_white_space, lower_case}
use Rattle.html5reading.specs.Doctype.{in_skipped_rest, quote_mark, in_identifier, keyword_of, is_keyword, in_doctype_name}
use Rattle.html5grammar.specs.Comment.{begins_with}
use Rattle.html5grammar.specs.Doctype.{IsDoctypeText, identifier_text, system_text, public_text, after_name_text, content_text, opening, written, is_rest, is_identifier, is_system, is_public, is_after_name, is_content, is_written}
use Rattle.html5grammar.specs.Doctype.RestAfterName.{NoKeyword, PublicKeyword, SystemKeyword}
use Rattle.html5grammar.specs.Doctype.Content.{NoName, Named}
use Rattle.html5grammar.specs.Doctype.Identifier.{Missing, Unclosed, Closed}
use Rattle.html5reading.specs.Start.{Quotes}
use Rattle.html5reading.specs.Start.Quotes.{DoubleQuotes, SingleQuotes}
use Rattle.html5grammar.specs.RawText.{next_is}

-- ---- runs

-- a text is a run of a kind, and what begins with none of it
record Split (is_kind : ℕ → Bool) (text : List ℕ) : Type 0 where
  run : List ℕ
  rest : List ℕ
  parts : run ++ rest ≡ text
  all : list_all is_kind run ≡ true
  next : next_is is_kind rest ≡ false

split : (is_kind : ℕ → Bool) (text : List ℕ) → Split is_kind text
split is_kind [] = record { run = []; rest = []; parts = refl; all = refl; next = refl }
split is_kind (c ∷ text) = by (is_kind c) refl (split is_kind text)
  where
    by : (t : Bool) → is_kind c ≡ t → Split is_kind text → Split is_kind (c ∷ text)
    by true e s = record { run = c ∷ s.run; rest = s.rest; parts = ap (λ l. c ∷ l) s.parts; all = rw (e, s.all) refl; next = s.next }
    by false e s = record { run = []; rest = c ∷ text; parts = refl; all = refl; next = e }

-- no `>` stands there
abbrev HasNoEnd : List ℕ → Type 0
HasNoEnd text = list_all in_skipped_rest text ≡ true

no_end-after : (front rest text : List ℕ) → front ++ rest ≡ text → HasNoEnd text → HasNoEnd rest
no_end-after front rest text e h =
    (and_parts (list_all in_skipped_rest front) (list_all in_skipped_rest rest) (sym (list_all-append in_skipped_rest front rest) ∙ ap (list_all in_skipped_rest) e ∙ h)).1

no_end-first : (c : ℕ) (text : List ℕ) → HasNoEnd (c ∷ text) → (c == greater_than) ≡ false
unfolding in_skipped_rest
no_end-first c text h = not-true (c == greater_than) (and_parts (in_skipped_rest c) (list_all in_skipped_rest text) h).0

-- ---- forms

-- a form whose source is this text
record Form {B : Type 0} (is_form : B → Bool) (text_of : B → List ℕ) (text : List ℕ) : Type 0 where
  form : B
  fits : is_form form ≡ true
  is_text : text_of form ≡ text

-- each text after white space, without `>`, has a form
abbrev Covers : {B : Type 0} → (B → Bool) → (B → List ℕ) → Type 0
Covers is_form text_of = (text : List ℕ) → HasNoEnd text → next_is is_white_space text ≡ false → Form is_form text_of text

covers-rest : Covers (is_rest is_white_space) (λ rest. rest)
covers-rest text h next = record { form = text; fits = rw (next, h) refl; is_text = refl }

the_other : (a b : Bool) → not (a || b) ≡ false → b ≡ false → a ≡ true
the_other true b h e = refl
the_other false true h e = sym e
the_other false false h e = sym h

closes : (quotes : Quotes) (c : ℕ) → in_identifier quotes c ≡ false → (c == greater_than) ≡ false → c ≡ quote_mark quotes
unfolding in_identifier
closes quotes c h no_end = eqb-true c (quote_mark quotes) (the_other (c == quote_mark quotes) (c == greater_than) h no_end)

module _ {B : Type 0} (is_after : B → Bool) (text_after : B → List ℕ) (covers : Covers is_after text_after) where
  -- after a quote
  covers-quoted : (quotes : Quotes) (text : List ℕ) → HasNoEnd text → Form (is_identifier is_after) (identifier_text text_after) (quote_mark quotes ∷ text)
  covers-quoted quotes text h = by s.rest refl
    where
      s : Split (in_identifier quotes) text
      s = split (in_identifier quotes) text

      by : (rest : List ℕ) → s.rest ≡ rest → Form (is_identifier is_after) (identifier_text text_after) (quote_mark quotes ∷ text)
      by [] e = record { form = Unclosed quotes s.run; fits = s.all; is_text = ap (λ l. quote_mark quotes ∷ l) (sym (append-nil s.run) ∙ ap (λ l. s.run ++ l) (sym e) ∙ s.parts) }
      by (c ∷ more) e =
          let no_end : HasNoEnd (c ∷ more) = no_end-after s.run (c ∷ more) text (ap (λ l. s.run ++ l) (sym e) ∙ s.parts) h in
          let mark : c ≡ quote_mark quotes = closes quotes c (sym (ap (next_is (in_identifier quotes)) e) ∙ s.next) (no_end-first c more no_end) in
          let t : Split is_white_space more = split is_white_space more in
          let f : Form is_after text_after t.rest =
          covers t.rest (no_end-after (c ∷ t.run) t.rest (c ∷ more) (ap (λ l. c ∷ l) t.parts) no_end) t.next in
          record {
            form = Closed quotes s.run t.run f.form;
            fits = rw (s.all, t.all, f.fits) refl;
            is_text =
                ap (λ l. quote_mark quotes ∷ s.run ++ (quote_mark quotes ∷ t.run ++ l)) f.is_text
                ∙ ap (λ l. quote_mark quotes ∷ s.run ++ (quote_mark quotes ∷ l)) t.parts
                ∙ ap (λ d. quote_mark quotes ∷ s.run ++ (d ∷ more)) (sym mark)
                ∙ ap (λ l. quote_mark quotes ∷ l) (ap (λ l. s.run ++ l) (sym e) ∙ s.parts);
          }

  covers-identifier : Covers (is_identifier is_after) (identifier_text text_after)
  covers-identifier [] h next = record { form = Missing []; fits = refl; is_text = refl }
  covers-identifier (c ∷ text) h next = by (c == quotation_mark) (c == apostrophe) refl refl
    where
      no_end : HasNoEnd text
      no_end = no_end-after (c ∷ []) text (c ∷ text) refl h

      by : (a b : Bool) → (c == quotation_mark) ≡ a → (c == apostrophe) ≡ b → Form (is_identifier is_after) (identifier_text text_after) (c ∷ text)
      by true b e f = subst (λ d. Form (is_identifier is_after) (identifier_text text_after) (d ∷ text)) (sym (eqb-true c quotation_mark e)) (covers-quoted DoubleQuotes text no_end)
      by false true e f = subst (λ d. Form (is_identifier is_after) (identifier_text text_after) (d ∷ text)) (sym (eqb-true c apostrophe f)) (covers-quoted SingleQuotes text no_end)
      by false false e f = record { form = Missing (c ∷ text); fits = rw (next, e, f, h) refl; is_text = refl }

covers-system : Covers is_system system_text
covers-system text h next = covers-identifier (is_rest is_white_space) (λ rest. rest) covers-rest text h next

covers-public : Covers is_public public_text
covers-public text h next = covers-identifier is_system system_text covers-system text h next

-- ---- after the name

-- what begins with a keyword
record Keyword (kind : DoctypeIdKind) (text : List ℕ) : Type 0 where
  keyword : List ℕ
  space : List ℕ
  rest : List ℕ
  parts : keyword ++ (space ++ rest) ≡ text
  is_word : is_keyword kind keyword ≡ true
  all : list_all is_white_space space ≡ true
  next : next_is is_white_space rest ≡ false

-- a text that begins with a keyword is the keyword and the rest
keyword-parts : (kind : DoctypeIdKind) (text : List ℕ) → begins_with (keyword_of kind) (lower_case text) ≡ true → Keyword kind text
keyword-parts kind text h =
    let n : ℕ = length (keyword_of kind) in
    let word : keyword_of kind ≡ lower_case (take n text) = same_text (keyword_of kind) (take n (lower_case text)) (sym h) ∙ take-map to_ascii_lowercase n text in
    let s : Split is_white_space (drop n text) = split is_white_space (drop n text) in
    record {
      keyword = take n text;
      space = s.run;
      rest = s.rest;
      parts = ap (λ l. take n text ++ l) s.parts ∙ take-append-drop n text;
      is_word = ap (λ l. bytes_eq l (keyword_of kind)) (sym word) ∙ (bytes_decides (keyword_of kind) (keyword_of kind)).1 refl;
      all = s.all;
      next = s.next;
    }

no_end-keyword : (kind : DoctypeIdKind) (text : List ℕ) (k : Keyword kind text) → HasNoEnd text → HasNoEnd k.rest
no_end-keyword kind text k h = no_end-after (k.keyword ++ k.space) k.rest text (append_assoc k.keyword k.space k.rest ∙ k.parts) h

-- each rest after a name and white space has one of the forms
covers-after_name : Covers is_after_name after_name_text
covers-after_name text h next = by (begins_with (keyword_of Public) (lower_case text)) (begins_with (keyword_of System) (lower_case text)) refl refl
  where
    by : (a b : Bool) → begins_with (keyword_of Public) (lower_case text) ≡ a → begins_with (keyword_of System) (lower_case text) ≡ b → Form is_after_name after_name_text text
    by true b e f =
        let k : Keyword Public text = keyword-parts Public text e in
        let g : Form is_public public_text k.rest = covers-public k.rest (no_end-keyword Public text k h) k.next in
        record {
          form = PublicKeyword k.keyword k.space g.form;
          fits = rw (k.is_word, k.all, g.fits) refl;
          is_text = ap (λ l. k.keyword ++ (k.space ++ l)) g.is_text ∙ k.parts;
        }
    by false true e f =
        let k : Keyword System text = keyword-parts System text f in
        let g : Form is_system system_text k.rest = covers-system k.rest (no_end-keyword System text k h) k.next in
        record {
          form = SystemKeyword k.keyword k.space g.form;
          fits = rw (k.is_word, k.all, g.fits) refl;
          is_text = ap (λ l. k.keyword ++ (k.space ++ l)) g.is_text ∙ k.parts;
        }
    by false false e f = record { form = NoKeyword text; fits = rw (e, f, next, h) refl; is_text = refl }

-- ---- the content

-- after a name stands white space, or nothing
white_after_name : (c : ℕ) → in_doctype_name c ≡ false → (c == greater_than) ≡ false → is_white_space c ≡ true
unfolding in_doctype_name
white_after_name c h no_end = the_other (is_white_space c) (c == greater_than) h no_end

begins_name : (c : ℕ) → is_white_space c ≡ false → (c == greater_than) ≡ false → in_doctype_name c ≡ true
unfolding in_doctype_name
begins_name c h no_end = rw (h, no_end) refl

covers-content : Covers is_content content_text
covers-content [] h next = record { form = NoName; fits = refl; is_text = refl }
covers-content (first ∷ text) h next = by s.rest refl
  where
    s : Split in_doctype_name text
    s = split in_doctype_name text

    is_first : in_doctype_name first ≡ true
    is_first = begins_name first next (no_end-first first text h)

    by : (rest : List ℕ) → s.rest ≡ rest → Form is_content content_text (first ∷ text)
    by [] e = record {
      form = Named first s.run [] (NoKeyword []);
      fits = rw (is_first, s.all) refl;
      is_text = ap (λ l. first ∷ l) (append-nil (s.run ++ []) ∙ ap (λ l. s.run ++ l) (sym e) ∙ s.parts);
    }
    by (c ∷ more) e =
        let no_end : HasNoEnd (c ∷ more) = no_end-after (first ∷ s.run) (c ∷ more) (first ∷ text) (ap (λ l. first ∷ l) (ap (λ l. s.run ++ l) (sym e) ∙ s.parts)) h in
        let white : is_white_space c ≡ true = white_after_name c (sym (ap (next_is in_doctype_name) e) ∙ s.next) (no_end-first c more no_end) in
        let t : Split is_white_space more = split is_white_space more in
        let f : Form is_after_name after_name_text t.rest =
        covers-after_name t.rest (no_end-after (c ∷ t.run) t.rest (c ∷ more) (ap (λ l. c ∷ l) t.parts) no_end) t.next in
        record {
          form = Named first s.run (c ∷ t.run) f.form;
          fits = rw (is_first, s.all, white, t.all, f.fits) refl;
          is_text =
              ap (λ l. first ∷ (s.run ++ (c ∷ t.run)) ++ l) f.is_text
              ∙ ap (λ l. first ∷ l) (append_assoc s.run (c ∷ t.run) t.rest ∙ ap (λ l. s.run ++ (c ∷ l)) t.parts ∙ ap (λ l. s.run ++ l) (sym e) ∙ s.parts);
        }

-- ---- the whole doctype

-- `<!`, `doctype` in any case, a text without `>`, and `>` are a doctype: the statement of `each_doctype`
pub each-doctype : (word text : List ℕ) → bytes_eq (lower_case word) (codes "doctype") ≡ true → list_all in_skipped_rest text ≡ true → IsDoctypeText word text
unfolding is_written written
each-doctype word text is_word h =
    let s : Split is_white_space text = split is_white_space text in
    let f : Form is_content content_text s.rest = covers-content s.rest (no_end-after s.run s.rest text s.parts h) s.next in
    let end : List ℕ = greater_than ∷ [] in
    record {
      doctype = record { word = word; space = s.run; content = f.form };
      is_doctype = rw (is_word, s.all, f.fits) refl;
      is_text =
          ap (λ l. opening word s.run ++ (l ++ end)) f.is_text
          ∙ ap (λ l. codes "<!" ++ l) (append_assoc word s.run (s.rest ++ end) ∙ ap (λ l. word ++ l) (sym (append_assoc s.run s.rest end) ∙ ap (λ l. l ++ end) s.parts));
    }
