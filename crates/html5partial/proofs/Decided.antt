-- When a reference is not decided, or what may begin a keyword, and when nothing is undecided.
use Rattle.std.proofs.Common.{◌≡◌, ◌≢◌, ℕ, suc, ◌≤◌, ◌+◌, Bool, true, false, List, [], ◌∷◌, refl, ap, sym, ◌∙◌, None, Some, string_bytes, arith}
use Rattle.std.specs.Prelude.{◌==◌, length, not}
use Rattle.std.specs.Str.{chars}
use Rattle.std.proofs.lemmas.Bool.{false≢true, ne_eqb}
use Rattle.html5ever_interface.specs.Token.{DoctypeOf, doctype_of}
use Rattle.html5ever_interface.specs.declared.states.ScriptEscapeKind.TheVariants as escape_kind
use Rattle.html5ever_interface.specs.declared.states.State.{State}
use Rattle.html5ever_interface.specs.declared.states.State.TheVariants as state
use Rattle.html5reading.specs.Cdata.{open_cdata}
use Rattle.html5reading.specs.Start.{Open, is_undecided_open, held_len}
use Rattle.html5reading.specs.Start.Mode.{Data}
use Rattle.html5reading.specs.Start.Open.{Between, LessThan, LessThanSolidus, InTag, InRaw, InDeclaration, InComment, InBogusComment, InInstruction, InDoctype, InDoctypeKeyword, InCdata, InReference}
use Rattle.html5partial.specs.CharRef.{HasStand, begun_reference, with_reference}
use Rattle.html5partial.specs.CurrentTag.{open_of, after_doctype_name}
use Rattle.html5partial.specs.Runs.{IsRunAt}
use Rattle.html5partial.specs.declared.opened.Opened.{Opened}
use Rattle.html5partial.specs.Undecided.{is_reference, is_keyword_open, holds_keyword_in}

-- nothing is undecided there
pub record IsDecided (opened : Open) : Type 0 where
  pub no_reference : is_reference opened ≡ false
  pub no_keyword : is_keyword_open opened ≡ false
  pub nothing_held : held_len opened ≡ 0

-- when nothing is undecided, neither a reference nor a keyword is open, and nothing is held
pub is_decided : (opened : Open) → is_undecided_open opened ≡ false → IsDecided opened
is_decided (Between mode) h = record { no_reference = refl; no_keyword = refl; nothing_held = refl }
is_decided LessThan h = record { no_reference = refl; no_keyword = refl; nothing_held = refl }
is_decided LessThanSolidus h = record { no_reference = refl; no_keyword = refl; nothing_held = refl }
is_decided (InTag place tag) h = record { no_reference = refl; no_keyword = refl; nothing_held = refl }
is_decided (InRaw place name) h = record { no_reference = refl; no_keyword = refl; nothing_held = refl }
is_decided (InDeclaration held) h = absurd (false≢true (sym h))
is_decided (InComment text) h = record { no_reference = refl; no_keyword = refl; nothing_held = refl }
is_decided (InBogusComment text) h = record { no_reference = refl; no_keyword = refl; nothing_held = refl }
is_decided (InInstruction content) h = record { no_reference = refl; no_keyword = refl; nothing_held = refl }
is_decided (InCdata text) h = record { no_reference = refl; no_keyword = refl; nothing_held = refl }
is_decided (InDoctype place doctype) h = record { no_reference = refl; no_keyword = refl; nothing_held = refl }
is_decided (InDoctypeKeyword held doctype) h = absurd (false≢true (sym h))
is_decided (InReference stand held) h = absurd (false≢true (sym h))

-- nothing is undecided where a reference can stand
pub begun-decided : (opened : Open) → HasStand opened → is_undecided_open opened ≡ false
begun-decided (InDeclaration held) stand = absurd stand
begun-decided (InDoctypeKeyword held doctype) stand = absurd stand
begun-decided (InReference stand_there held) stand = absurd stand
begun-decided opened stand = refl

-- ---- by states

cons-length : (c : ℕ) (held : List ℕ) → (length (c ∷ held) == 0) ≡ false
cons-length c held = ne_eqb (suc (length held)) 0 (λ e. omega (arith, e))

after_name-holds : (held : List ℕ) (d : DoctypeOf)
    → (is_undecided_open (after_doctype_name held d) ≡ not (length held == 0)) × (is_reference (after_doctype_name held d) ≡ false)
after_name-holds [] d = (refl, refl)
after_name-holds (c ∷ held) d = (rw (cons-length c held) refl, refl)

section-holds : (held : List ℕ) → (is_undecided_open (open_cdata held) ≡ false) × (is_reference (open_cdata held) ≡ false)
section-holds [] = (refl, refl)
section-holds (c ∷ held) = (refl, refl)

-- a keyword is open if the held text may begin one, and no state is that of a reference
state-holds : {Z : Type 0} → (q : State) (at : Opened Z)
    → (is_undecided_open (open_of q at) ≡ holds_keyword_in q (string_bytes at.comment)) × (is_reference (open_of q at) ≡ false)
state-holds state.Data at = (refl, refl)
state-holds state.Plaintext at = (refl, refl)
state-holds state.TagOpen at = (refl, refl)
state-holds state.EndTagOpen at = (refl, refl)
state-holds state.TagName at = (refl, refl)
state-holds state.BeforeAttributeName at = (refl, refl)
state-holds state.AttributeName at = (refl, refl)
state-holds state.AfterAttributeName at = (refl, refl)
state-holds state.BeforeAttributeValue at = (refl, refl)
state-holds (state.AttributeValue kind) at = (refl, refl)
state-holds state.AfterAttributeValueQuoted at = (refl, refl)
state-holds state.SelfClosingStartTag at = (refl, refl)
state-holds (state.RawData kind) at = (refl, refl)
state-holds (state.RawLessThanSign kind) at = (refl, refl)
state-holds (state.RawEndTagOpen kind) at = (refl, refl)
state-holds (state.RawEndTagName kind) at = (refl, refl)
state-holds (state.ScriptDataEscapeStart escape_kind.Escaped) at = (refl, refl)
state-holds (state.ScriptDataEscapeStart escape_kind.DoubleEscaped) at = (refl, refl)
state-holds state.ScriptDataEscapeStartDash at = (refl, refl)
state-holds (state.ScriptDataEscapedDash kind) at = (refl, refl)
state-holds (state.ScriptDataEscapedDashDash kind) at = (refl, refl)
state-holds state.ScriptDataDoubleEscapeEnd at = (refl, refl)
state-holds state.MarkupDeclarationOpen at = (refl, refl)
state-holds state.Comment at = (refl, refl)
state-holds state.BogusComment at = (refl, refl)
state-holds state.ProcessingInstruction at = (refl, refl)
state-holds state.Doctype at = (refl, refl)
state-holds state.BeforeDoctypeName at = (refl, refl)
state-holds state.DoctypeName at = (refl, refl)
state-holds state.AfterDoctypeName at = after_name-holds (string_bytes at.comment) (doctype_of at.doctype)
state-holds (state.AfterDoctypeKeyword kind) at = (refl, refl)
state-holds (state.BeforeDoctypeIdentifier kind) at = (refl, refl)
state-holds (state.DoctypeIdentifierDoubleQuoted kind) at = (refl, refl)
state-holds (state.DoctypeIdentifierSingleQuoted kind) at = (refl, refl)
state-holds (state.AfterDoctypeIdentifier kind) at = (refl, refl)
state-holds state.BetweenDoctypePublicAndSystemIdentifiers at = (refl, refl)
state-holds state.BogusDoctype at = (refl, refl)
state-holds state.CdataSection at = section-holds (chars (string_bytes at.comment))
state-holds other at = (refl, refl)

pub state-no_reference : {Z : Type 0} → (q : State) (at : Opened Z) → is_reference (open_of q at) ≡ false
state-no_reference q at = (state-holds q at).1

pub state-undecided : {Z : Type 0} → (q : State) (at : Opened Z) → is_undecided_open (open_of q at) ≡ holds_keyword_in q (string_bytes at.comment)
state-undecided q at = (state-holds q at).0

-- what is undecided there is a keyword
keyword-undecided : (opened : Open) → is_reference opened ≡ false → is_keyword_open opened ≡ is_undecided_open opened
keyword-undecided (Between mode) none = refl
keyword-undecided LessThan none = refl
keyword-undecided LessThanSolidus none = refl
keyword-undecided (InTag place tag) none = refl
keyword-undecided (InRaw place name) none = refl
keyword-undecided (InDeclaration held) none = refl
keyword-undecided (InComment text) none = refl
keyword-undecided (InBogusComment text) none = refl
keyword-undecided (InInstruction content) none = refl
keyword-undecided (InCdata text) none = refl
keyword-undecided (InDoctype place doctype) none = refl
keyword-undecided (InDoctypeKeyword held doctype) none = refl
keyword-undecided (InReference stand held) none = absurd (false≢true (sym none))

pub state-keyword : {Z : Type 0} → (q : State) (at : Opened Z) → is_keyword_open (open_of q at) ≡ holds_keyword_in q (string_bytes at.comment)
state-keyword q at = keyword-undecided (open_of q at) (state-no_reference q at) ∙ state-undecided q at

-- it is one after `<!`, or one after the name of a doctype
pub record HoldsDoctypeKeyword {Z : Type 0} (q : State) (at : Opened Z) : Type 0 where
  pub state : q ≡ state.AfterDoctypeName
  pub holds : string_bytes at.comment ≢ []
  pub opened : open_of q at ≡ InDoctypeKeyword (string_bytes at.comment) (doctype_of at.doctype)

holding : (held : List ℕ) (d : DoctypeOf) → not (length held == 0) ≡ true → (held ≢ []) × (after_doctype_name held d ≡ InDoctypeKeyword held d)
holding [] d holds = absurd (false≢true holds)
holding (c ∷ held) d holds = (λ e. cc, refl)

doctype_keyword-held : {Z : Type 0} → (q : State) (at : Opened Z) → holds_keyword_in q (string_bytes at.comment) ≡ true → q ≢ state.MarkupDeclarationOpen → HoldsDoctypeKeyword q at
doctype_keyword-held state.MarkupDeclarationOpen at holds other = absurd (other refl)
doctype_keyword-held state.AfterDoctypeName at holds other =
    let kept = holding (string_bytes at.comment) (doctype_of at.doctype) holds in
    record { state = refl; holds = kept.0; opened = kept.1 }
doctype_keyword-held q at holds other = absurd (false≢true holds)

pub doctype_keyword-open : {Z : Type 0} → (q : State) (at : Opened Z) → is_keyword_open (open_of q at) ≡ true → q ≢ state.MarkupDeclarationOpen → HoldsDoctypeKeyword q at
doctype_keyword-open q at keyword = doctype_keyword-held q at (sym (state-keyword q at) ∙ keyword)

-- ---- where a reference is kept beside

pub with_reference-out : (held : List ℕ) (opened : Open) → with_reference false held opened ≡ opened
unfolding with_reference
with_reference-out held opened = refl

pub with_reference-false : (is_in : Bool) (held : List ℕ) (opened : Open) → is_in ≡ false → with_reference is_in held opened ≡ opened
with_reference-false is_in held opened out = rw out (with_reference-out held opened)

-- when nothing is undecided, none is open
pub with_reference-none : (is_in : Bool) (held : List ℕ) (opened : Open) → is_undecided_open (with_reference is_in held opened) ≡ false
    → (later : Open) → with_reference is_in held later ≡ later
unfolding with_reference
with_reference-none true held opened h later = absurd (false≢true (sym h))
with_reference-none false held opened h later = refl

pub beside-decided : (is_in : Bool) (held : List ℕ) (opened : Open) → is_undecided_open (with_reference is_in held opened) ≡ false → is_undecided_open opened ≡ false
beside-decided is_in held opened h = ap is_undecided_open (sym (with_reference-none is_in held opened h opened)) ∙ h

-- where one is open it is the one that is kept
pub is_in : (is_in : Bool) (held : List ℕ) (opened : Open) → is_reference opened ≡ false → is_reference (with_reference is_in held opened) ≡ true → is_in ≡ true
unfolding with_reference
is_in true held opened none one = refl
is_in false held opened none one = absurd (false≢true (sym none ∙ one))

-- where a keyword is open, none is
pub keyword-out : (is_in : Bool) (held : List ℕ) (opened : Open) → is_keyword_open (with_reference is_in held opened) ≡ true
    → (is_in ≡ false) × (is_keyword_open opened ≡ true)
unfolding with_reference
keyword-out true held opened h = absurd (false≢true h)
keyword-out false held opened h = (refl, h)

pub begun-stands : (is_in : Bool) (held : List ℕ) (opened : Open) → is_undecided_open (with_reference is_in held opened) ≡ false
    → HasStand (with_reference is_in held opened)
    → HasStand opened × (with_reference true [] opened ≡ begun_reference (with_reference is_in held opened))
unfolding with_reference
begun-stands true held opened none stand = absurd (false≢true (sym none))
begun-stands false held opened none stand = (stand, refl)

-- where something is undecided and no reference, a keyword is open
pub undecided-keyword : {Z : Type 0} → (is_in : Bool) (held : List ℕ) (q : State) (at : Opened Z) → is_in ≡ false
    → is_undecided_open (with_reference is_in held (open_of q at)) ≡ true → is_keyword_open (with_reference is_in held (open_of q at)) ≡ true
undecided-keyword is_in held q at out undecided =
    let same = with_reference-false is_in held (open_of q at) out in
    ap is_keyword_open same ∙ keyword-undecided (open_of q at) (state-no_reference q at) ∙ sym (ap is_undecided_open same) ∙ undecided

-- runs are read when none is
none≢some : {X : Type 0} {x : X} → None ≡ Some x → ⊥
none≢some e = cc

pub no_reference-run : (is_in : Bool) (held : List ℕ) (opened : Open) (run : List ℕ) → IsRunAt (with_reference is_in held opened) run → is_in ≡ false
unfolding with_reference
no_reference-run true held opened run r = absurd (none≢some r.has_runs)
no_reference-run false held opened run r = refl

-- the held text beside a state
pub held_len-beside : (is_in : Bool) (held : List ℕ) (opened later : Open) → is_in ≡ false → held_len later ≤ held_len opened + 1
    → held_len (with_reference is_in held later) ≤ held_len (with_reference is_in held opened) + 1
unfolding with_reference
held_len-beside is_in held opened later out h = rw out h
