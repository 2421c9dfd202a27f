-- A character after what may begin a keyword.
use Rattle.std.proofs.Common.{◌≡◌, ◌≢◌, ℕ, Bool, true, false, ◌&&◌, List, [], ◌∷◌, ◌++◌, refl, ap, sym, ◌∙◌}
use Rattle.std.proofs.lemmas.Bool.{false≢true}
use Rattle.html5ever_interface.specs.Token.{DoctypeOf}
use Rattle.html5reading.specs.Machine.{step_at, brought_at, declaration_step, bogus_comment_step, doctype_step, doctype_keyword_step, skipped_step}
use Rattle.html5reading.proofs.Traces.{brought-unasked}
use Rattle.html5reading.specs.Comment.{begins_cdata, declaration_error}
use Rattle.html5reading.specs.Doctype.{keyword_error, with_quirks}
use Rattle.html5reading.specs.EndOfInput.{late_at_end_of, open_at_end_of}
use Rattle.html5reading.specs.Reading.{Brought}
use Rattle.html5reading.specs.Reading.Here.{Tells}
use Rattle.html5reading.specs.Start.{Open, Rules, is_undecided_open, held_len}
use Rattle.html5reading.specs.Start.Open.{Between, LessThan, LessThanSolidus, InTag, InRaw, InDeclaration, InComment, InBogusComment, InInstruction, InDoctype, InDoctypeKeyword, InCdata, InReference}
use Rattle.html5partial.proofs.Keywords.{keyword-good, doctype_keyword-good}
use Rattle.html5partial.specs.CharRef.{with_reference}
use Rattle.html5partial.specs.Undecided.{GoesOn, EndsKeyword, asks, is_keyword_open}
use Rattle.html5partial.proofs.Decided.{is_decided, keyword-out, with_reference-false}

-- ---- after `<!`

-- a character that is held after `<!` belongs to a keyword
pub declaration-goes_on : (foreign : Bool) (held : List ℕ) (c : ℕ) (later : Open)
    → ((exact : Bool) → declaration_step exact foreign held c ≡ record { settled = []; here = Tells [] later })
    → GoesOn foreign (InDeclaration held) c later
unfolding brought_at
declaration-goes_on foreign held c later step = record {
  settled = λ rules. ap (λ (b : Brought Open). b.settled) (step rules.exact);
  belongs = λ rules. record {
    here = ap (λ (b : Brought Open). b.here) (step rules.exact);
    good = keyword-good rules.exact foreign held c later (step rules.exact);
  };
}

-- a character after `<!` that belongs to no keyword ends the held text
pub declaration-ends : (foreign : Bool) (held : List ℕ) (c : ℕ)
    → ((exact : Bool) → declaration_step exact foreign held c ≡ record { settled = declaration_error exact held; here = bogus_comment_step exact held [] c })
    → EndsKeyword foreign (InDeclaration held) c
unfolding brought_at step_at late_at_end_of open_at_end_of
declaration-ends foreign held c step = record {
  settled = λ rules. ap (λ (b : Brought Open). b.settled) (step rules.exact);
  decides = λ rules. record {
    here = ap (λ (b : Brought Open). b.here) (step rules.exact);
    decided = refl;
  };
}

-- ---- after the name of a doctype

-- a character that is held after a doctype's name belongs to a keyword
pub doctype_keyword-goes_on : (foreign : Bool) (held : List ℕ) (d : DoctypeOf) (c : ℕ) (later : Open) → held ≢ []
    → ((exact : Bool) → doctype_keyword_step exact held d c ≡ record { settled = []; here = Tells [] later })
    → GoesOn foreign (InDoctypeKeyword held d) c later
unfolding brought_at
doctype_keyword-goes_on foreign [] d c later holds step = absurd (holds refl)
doctype_keyword-goes_on foreign (first ∷ held) d c later holds step = record {
  settled = λ rules. ap (λ (b : Brought Open). b.settled) (step rules.exact);
  belongs = λ rules. record {
    here = ap (λ (b : Brought Open). b.here) (step rules.exact);
    good = doctype_keyword-good rules.exact first held d c later (step rules.exact);
  };
}

-- a character after a doctype's name that belongs to no keyword ends the held text
pub doctype_keyword-ends : (foreign : Bool) (held : List ℕ) (d : DoctypeOf) (c : ℕ)
    → ((exact : Bool) → doctype_keyword_step exact held d c ≡ record { settled = keyword_error exact held; here = skipped_step exact [] (with_quirks d) c })
    → EndsKeyword foreign (InDoctypeKeyword held d) c
unfolding brought_at step_at doctype_step late_at_end_of open_at_end_of
doctype_keyword-ends foreign held d c step = record {
  settled = λ rules. ap (λ (b : Brought Open). b.settled) (step rules.exact);
  decides = λ rules. record {
    here = ap (λ (b : Brought Open). b.here) (step rules.exact);
    decided = refl;
  };
}

-- ---- where the sink is not asked

-- where the sink is not asked, its answer changes nothing
brought-asked : (rules : Rules) (foreign : Bool) (opened : Open) (c : ℕ) → brought_at rules (asks opened c && foreign) opened c ≡ brought_at rules foreign opened c
unfolding brought_at
brought-asked rules foreign (InDeclaration held) c =
    elim (begins_cdata (held ++ c ∷ [])) as (λ b. begins_cdata (held ++ c ∷ []) ≡ b → brought_at rules (begins_cdata (held ++ c ∷ []) && foreign) (InDeclaration held) c ≡ brought_at rules foreign (InDeclaration held) c) [
      | true ↦ λ e. rw e refl
      | false ↦ λ e. brought-unasked rules (begins_cdata (held ++ c ∷ []) && foreign) foreign held c e
    ] refl
brought-asked rules foreign (Between mode) c = refl
brought-asked rules foreign LessThan c = refl
brought-asked rules foreign LessThanSolidus c = refl
brought-asked rules foreign (InTag place tag) c = refl
brought-asked rules foreign (InRaw place name) c = refl
brought-asked rules foreign (InComment text) c = refl
brought-asked rules foreign (InBogusComment text) c = refl
brought-asked rules foreign (InInstruction content) c = refl
brought-asked rules foreign (InDoctype place doctype) c = refl
brought-asked rules foreign (InDoctypeKeyword held doctype) c = refl
brought-asked rules foreign (InCdata text) c = refl
brought-asked rules foreign (InReference stand held) c = refl

pub goes_on-asked : (foreign : Bool) (opened : Open) (c : ℕ) (later : Open) → GoesOn (asks opened c && foreign) opened c later → GoesOn foreign opened c later
goes_on-asked foreign opened c later goes = record {
  settled = λ rules. ap (λ (b : Brought Open). b.settled) (sym (brought-asked rules foreign opened c)) ∙ goes.settled rules;
  belongs = λ rules. record {
    here = ap (λ (b : Brought Open). b.here) (sym (brought-asked rules foreign opened c)) ∙ (goes.belongs rules).here;
    good = (goes.belongs rules).good;
  };
}

pub ends-asked : (foreign : Bool) (opened : Open) (c : ℕ) → EndsKeyword (asks opened c && foreign) opened c → EndsKeyword foreign opened c
ends-asked foreign opened c ends = record {
  settled = λ rules. ap (λ (b : Brought Open). b.settled) (sym (brought-asked rules foreign opened c)) ∙ ends.settled rules;
  decides = λ rules. record {
    here = ap (λ (b : Brought Open). b.here) (sym (brought-asked rules foreign opened c)) ∙ (ends.decides rules).here;
    decided = (ends.decides rules).decided;
  };
}

-- ---- the end of input

keyword-end : (rules : Rules) (opened : Open) → is_keyword_open opened ≡ true
    → is_undecided_open (open_at_end_of rules opened) ≡ false
unfolding open_at_end_of
keyword-end rules (InDeclaration held) keyword = refl
keyword-end rules (InDoctypeKeyword held d) keyword = refl
keyword-end rules other keyword = absurd (false≢true keyword)

-- where the later is open after no keyword
module _ (rules : Rules) (opened later : Open) (keyword : is_keyword_open opened ≡ true) (is : later ≡ open_at_end_of rules opened) where
  pub end-decided : is_undecided_open later ≡ false
  end-decided = ap is_undecided_open is ∙ keyword-end rules opened keyword

  pub end-holds : held_len later ≡ 0
  end-holds = (is_decided later end-decided).nothing_held

-- ---- where a reference is kept beside

module _ (is_in : Bool) (held : List ℕ) (opened : Open) (keyword : is_keyword_open (with_reference is_in held opened) ≡ true) where
  pub no_reference-keyword : is_in ≡ false
  no_reference-keyword = (keyword-out is_in held opened keyword).0

  pub keyword-opened : is_keyword_open opened ≡ true
  keyword-opened = (keyword-out is_in held opened keyword).1

  -- the open item is that of the state, before and after it
  pub beside : (later : Open) → with_reference is_in held later ≡ later
  beside later = with_reference-false is_in held later no_reference-keyword
