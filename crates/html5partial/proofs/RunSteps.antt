-- A run is read as its characters are, one by one.
use Rattle.std.proofs.Common.{inl, inr, ◌≡◌, ◌≢◌, ℕ, false, List, [], ◌∷◌, ◌++◌, refl, ap, sym, ◌∙◌, None, Some, lit<, length, get_or, ◌<◌, arith, subst}
use Rattle.std.specs.Prelude.{Bool, ◌⊎◌, All, Contains, flat_map, encode_utf8, encode_utf8_all, codes, ◌==◌}
use Rattle.std.proofs.lemmas.Bool.{ne_eqb, false≢true}
use Rattle.std.proofs.Math.Bool.{and-false}
use Rattle.std.proofs.lemmas.List.Elements.{All-head, All-tail}
use Rattle.html5ever_interface.specs.declared.states.AttrValueKind.TheVariants.{Unquoted, SingleQuoted, DoubleQuoted}
use Rattle.html5reading.specs.Characters.{null, tab, line_feed, form_feed, carriage_return, space, quotation_mark, ampersand, apostrophe, hyphen, solidus, less_than, equals_sign, greater_than, value_bytes, shown, is_white_space}
use Rattle.html5reading.specs.Reading.Here.{Tells}
use Rattle.html5reading.specs.Start.{Open, nothing_open}
use Rattle.html5reading.specs.Start.Dashes.{NoDash, OneDash, TwoDashes}
use Rattle.html5reading.specs.Start.Raw.{Rcdata, Rawtext, ScriptData, Escaped, DoubleEscaped}
use Rattle.html5reading.specs.Start.Mode.{Data, Plain, RawText, Cdata}
use Rattle.html5reading.specs.Start.Place.{InName, BeforeAttribute, InAttributeName, AfterAttributeName, BeforeValue, InValue, AfterQuotedValue, AfterSolidus}
use Rattle.html5reading.specs.Start.Open.{Between, LessThan, LessThanSolidus, InTag, InRaw, InDeclaration, InComment, InBogusComment, InInstruction, InDoctype, InDoctypeKeyword, InCdata, InReference}
use Rattle.html5reading.specs.Tag.{in_tag_name, in_attribute_name, in_quoted, in_unquoted, unquoted_error, is_odd_in_name}
use Rattle.std.proofs.lemmas.List.{append-nil, append_assoc}
use Rattle.html5reading.specs.Comment.{ends_in, comment_errors, mark_error}
use Rattle.html5partial.proofs.CommentEnds.{comment_ends, ends_in_dash-none, ends_in_mark-none}
use Rattle.html5reading.specs.RawText.{raw_character, raw_after, dashes_after}
use Rattle.html5reading.specs.Text.{plain_text}
use Rattle.html5reading.specs.Machine.{step_at, tag_step, data_step, raw_step, comment_step, bogus_comment_step, instruction_step, cdata_step, tag_name_step, attribute_name_step, quoted_step, unquoted_step}
use Rattle.html5reading.proofs.Slices.{with_name-nil, with_last_name-nil, with_value-nil, with_name-cons, with_last_name-cons, with_value-cons, bytes-cons}
use Rattle.html5partial.specs.Runs.{is_unquoted, other_run_ends, run_ends, opened_after_run, run_tokens}

none≢some : {X : Type 0} {x : X} → None ≡ Some x → ⊥
none≢some e = cc

-- a run is put to a value as it stands
pub value_bytes-run : (run : List ℕ) → All (λ c. c ≢ null) run → flat_map value_bytes run ≡ encode_utf8_all run
unfolding value_bytes shown
value_bytes-run [] all = refl
value_bytes-run (c ∷ run) all =
    rw (ne_eqb c null (All-head (λ c. c ≢ null) c run all))
    (ap (λ l. encode_utf8 c ++ l) (value_bytes-run run (All-tail (λ c. c ≢ null) c run all)))

-- an empty run leaves the open item as it is
pub opened_after_run-nil : (opened : Open) → opened_after_run opened [] ≡ opened
opened_after_run-nil (Between mode) = refl
opened_after_run-nil LessThan = refl
opened_after_run-nil LessThanSolidus = refl
opened_after_run-nil (InTag InName tag) = ap (InTag InName) (with_name-nil tag)
opened_after_run-nil (InTag BeforeAttribute tag) = refl
opened_after_run-nil (InTag InAttributeName tag) = ap (InTag InAttributeName) (with_last_name-nil tag)
opened_after_run-nil (InTag AfterAttributeName tag) = refl
opened_after_run-nil (InTag BeforeValue tag) = refl
opened_after_run-nil (InTag (InValue kind) tag) = ap (InTag (InValue kind)) (with_value-nil tag)
opened_after_run-nil (InTag AfterQuotedValue tag) = refl
opened_after_run-nil (InTag AfterSolidus tag) = refl
opened_after_run-nil (InRaw place name) = refl
opened_after_run-nil (InDeclaration held) = refl
opened_after_run-nil (InComment text) = ap InComment (append-nil text)
opened_after_run-nil (InBogusComment text) = ap InBogusComment (append-nil text)
opened_after_run-nil (InInstruction content) = ap InInstruction (append-nil content)
opened_after_run-nil (InDoctype place doctype) = refl
opened_after_run-nil (InDoctypeKeyword held doctype) = refl
opened_after_run-nil (InCdata text) = ap InCdata (append-nil text)
opened_after_run-nil (InReference stand held) = refl

-- a run leaves open what its characters leave open one after another
pub opened_after_run-cons : (opened : Open) (c : ℕ) (run : List ℕ)
    → opened_after_run opened (c ∷ run) ≡ opened_after_run (opened_after_run opened (c ∷ [])) run
opened_after_run-cons (Between mode) c run = refl
opened_after_run-cons LessThan c run = refl
opened_after_run-cons LessThanSolidus c run = refl
opened_after_run-cons (InTag InName tag) c run = ap (InTag InName) (with_name-cons tag c run)
opened_after_run-cons (InTag BeforeAttribute tag) c run = refl
opened_after_run-cons (InTag InAttributeName tag) c run = ap (InTag InAttributeName) (with_last_name-cons tag c run)
opened_after_run-cons (InTag AfterAttributeName tag) c run = refl
opened_after_run-cons (InTag BeforeValue tag) c run = refl
opened_after_run-cons (InTag (InValue kind) tag) c run = ap (InTag (InValue kind)) (with_value-cons tag c run)
opened_after_run-cons (InTag AfterQuotedValue tag) c run = refl
opened_after_run-cons (InTag AfterSolidus tag) c run = refl
opened_after_run-cons (InRaw place name) c run = refl
opened_after_run-cons (InDeclaration held) c run = refl
opened_after_run-cons (InComment text) c run = ap InComment (bytes-cons value_bytes text c run)
opened_after_run-cons (InBogusComment text) c run = ap InBogusComment (bytes-cons value_bytes text c run)
opened_after_run-cons (InInstruction content) c run = ap InInstruction (bytes-cons value_bytes content c run)
opened_after_run-cons (InDoctype place doctype) c run = refl
opened_after_run-cons (InDoctypeKeyword held doctype) c run = refl
opened_after_run-cons (InCdata text) c run = ap InCdata (sym (append_assoc text (c ∷ []) run))
opened_after_run-cons (InReference stand held) c run = refl

-- after a character of a run the same characters end it
pub other_run_ends-after : (opened : Open) (others : List ℕ) (c : ℕ) → other_run_ends opened ≡ Some others → ¬ Contains (run_ends others) c
    → other_run_ends (opened_after_run opened (c ∷ [])) ≡ other_run_ends opened
other_run_ends-after (Between mode) others c has out = refl
other_run_ends-after LessThan others c has out = refl
other_run_ends-after LessThanSolidus others c has out = refl
other_run_ends-after (InTag InName tag) others c has out = refl
other_run_ends-after (InTag BeforeAttribute tag) others c has out = refl
other_run_ends-after (InTag InAttributeName tag) others c has out = refl
other_run_ends-after (InTag AfterAttributeName tag) others c has out = refl
other_run_ends-after (InTag BeforeValue tag) others c has out = refl
other_run_ends-after (InTag (InValue kind) tag) others c has out = refl
other_run_ends-after (InTag AfterQuotedValue tag) others c has out = refl
other_run_ends-after (InTag AfterSolidus tag) others c has out = refl
other_run_ends-after (InRaw place name) others c has out = refl
other_run_ends-after (InDeclaration held) others c has out = refl
other_run_ends-after (InComment text) others c has out =
    let known_ends : (others ≡ line_feed ∷ hyphen ∷ greater_than ∷ []) × (ends_in text (codes "-") ≡ false) = comment_ends text others has in
    let ordinary : ¬ Contains (run_ends (line_feed ∷ hyphen ∷ greater_than ∷ [])) c = subst (λ l. ¬ Contains (run_ends l) c) known_ends.0 out in
    rw (known_ends.1, append-nil (value_bytes c), ends_in_dash-none text c (λ e. ordinary (3, lit< tt, sym e))) refl
other_run_ends-after (InBogusComment text) others c has out = refl
other_run_ends-after (InInstruction content) others c has out = refl
other_run_ends-after (InDoctype place doctype) others c has out = refl
other_run_ends-after (InDoctypeKeyword held doctype) others c has out = refl
other_run_ends-after (InCdata text) others c has out = refl
other_run_ends-after (InReference stand held) others c has out = refl

-- a character that ends no run is not among the characters that end one
no : (others : List ℕ) (c : ℕ) → ¬ Contains (run_ends others) c → (k e : ℕ) → k < length (run_ends others) → get_or (run_ends others) k c ≡ e → (c == e) ≡ false
no others c out k e within is = ne_eqb c e (λ same. out (k, within, is ∙ sym same))

known : (a b : List ℕ) (c : ℕ) → Some a ≡ Some b → ¬ Contains (run_ends b) c → ¬ Contains (run_ends a) c
known a b c e out = let same : b ≡ a = cc in subst (λ l. ¬ Contains (run_ends l) c) same out

pub no_null : (others : List ℕ) (c : ℕ) → ¬ Contains (run_ends others) c → c ≢ null
no_null others c other = λ same. other (0, omega arith, sym same)

pub no_carriage_return : (others : List ℕ) (c : ℕ) → ¬ Contains (run_ends others) c → c ≢ carriage_return
no_carriage_return others c other = λ same. other (1, omega arith, sym same)

-- where something is open that takes runs, LF ends one
line_feed_first : (opened : Open) (others : List ℕ) → nothing_open opened ≡ false → other_run_ends opened ≡ Some others → (more : List ℕ) × (others ≡ line_feed ∷ more)
line_feed_first (Between mode) others within has = absurd (false≢true (sym within))
line_feed_first LessThan others within has = absurd (none≢some has)
line_feed_first LessThanSolidus others within has = absurd (none≢some has)
line_feed_first (InTag InName tag) others within has = (tab ∷ form_feed ∷ space ∷ solidus ∷ greater_than ∷ [], cc)
line_feed_first (InTag BeforeAttribute tag) others within has = absurd (none≢some has)
line_feed_first (InTag InAttributeName tag) others within has =
    (tab ∷ form_feed ∷ space ∷ solidus ∷ greater_than ∷ equals_sign ∷ quotation_mark ∷ apostrophe ∷ less_than ∷ [], cc)
line_feed_first (InTag AfterAttributeName tag) others within has = absurd (none≢some has)
line_feed_first (InTag BeforeValue tag) others within has = absurd (none≢some has)
line_feed_first (InTag (InValue DoubleQuoted) tag) others within has = (quotation_mark ∷ ampersand ∷ [], cc)
line_feed_first (InTag (InValue SingleQuoted) tag) others within has = (apostrophe ∷ ampersand ∷ [], cc)
line_feed_first (InTag (InValue Unquoted) tag) others within has = (tab ∷ form_feed ∷ space ∷ ampersand ∷ greater_than ∷ [], cc)
line_feed_first (InTag AfterQuotedValue tag) others within has = absurd (none≢some has)
line_feed_first (InTag AfterSolidus tag) others within has = absurd (none≢some has)
line_feed_first (InRaw place name) others within has = absurd (none≢some has)
line_feed_first (InDeclaration held) others within has = absurd (none≢some has)
line_feed_first (InComment text) others within has = (hyphen ∷ greater_than ∷ [], (comment_ends text others has).0)
line_feed_first (InBogusComment text) others within has = (greater_than ∷ [], cc)
line_feed_first (InInstruction content) others within has = (greater_than ∷ [], cc)
line_feed_first (InDoctype place doctype) others within has = absurd (none≢some has)
line_feed_first (InDoctypeKeyword held doctype) others within has = absurd (none≢some has)
line_feed_first (InCdata text) others within has = (greater_than ∷ [], cc)
line_feed_first (InReference stand held) others within has = absurd (none≢some has)

-- so a run that is put to it has no line feed
pub no_line_feed : (opened : Open) (others : List ℕ) (c : ℕ) → nothing_open opened ≡ false → other_run_ends opened ≡ Some others → ¬ Contains (run_ends others) c
    → c ≢ line_feed
no_line_feed opened others c within has out =
    let first = line_feed_first opened others within has in
    let ordinary : ¬ Contains (run_ends (line_feed ∷ first.0)) c = subst (λ l. ¬ Contains (run_ends l) c) first.1 out in
    λ same. ordinary (2, omega arith, sym same)

-- a character that ends no run tells itself alone, or is put to the open name or value
pub step-run : (exact : Bool) (opened : Open) (others : List ℕ) (c : ℕ) → (exact ≡ false) ⊎ (is_unquoted opened ≡ false) → other_run_ends opened ≡ Some others
    → ¬ Contains (run_ends others) c → step_at exact opened c ≡ Tells (run_tokens opened (c ∷ [])) (opened_after_run opened (c ∷ []))
unfolding step_at tag_step data_step plain_text raw_step raw_character raw_after dashes_after comment_step comment_errors mark_error bogus_comment_step instruction_step cdata_step tag_name_step attribute_name_step quoted_step unquoted_step in_tag_name in_attribute_name in_quoted in_unquoted unquoted_error is_odd_in_name is_white_space
step-run exact (Between Data) others c how has other =
    let out : ¬ Contains (run_ends (less_than ∷ ampersand ∷ [])) c = known (less_than ∷ ampersand ∷ []) others c has other in
    rw (no (less_than ∷ ampersand ∷ []) c out 2 less_than (lit< tt) refl, no (less_than ∷ ampersand ∷ []) c out 3 ampersand (lit< tt) refl, no (less_than ∷ ampersand ∷ []) c out 0 null (lit< tt) refl) refl
step-run exact (Between Cdata) others c how has other = absurd (none≢some has)
step-run exact (Between Plain) others c how has other = rw (no others c other 0 null (omega arith) refl) refl
step-run exact (Between (RawText Rcdata name)) others c how has other =
    let out : ¬ Contains (run_ends (less_than ∷ ampersand ∷ [])) c = known (less_than ∷ ampersand ∷ []) others c has other in
    rw (no (less_than ∷ ampersand ∷ []) c out 2 less_than (lit< tt) refl, no (less_than ∷ ampersand ∷ []) c out 3 ampersand (lit< tt) refl, no (less_than ∷ ampersand ∷ []) c out 0 null (lit< tt) refl) refl
step-run exact (Between (RawText Rawtext name)) others c how has other =
    let out : ¬ Contains (run_ends (less_than ∷ [])) c = known (less_than ∷ []) others c has other in
    rw (no (less_than ∷ []) c out 2 less_than (lit< tt) refl, no (less_than ∷ []) c out 0 null (lit< tt) refl) refl
step-run exact (Between (RawText ScriptData name)) others c how has other =
    let out : ¬ Contains (run_ends (less_than ∷ [])) c = known (less_than ∷ []) others c has other in
    rw (no (less_than ∷ []) c out 2 less_than (lit< tt) refl, no (less_than ∷ []) c out 0 null (lit< tt) refl) refl
step-run exact (Between (RawText (Escaped NoDash) name)) others c how has other =
    let out : ¬ Contains (run_ends (hyphen ∷ less_than ∷ [])) c = known (hyphen ∷ less_than ∷ []) others c has other in
    rw (no (hyphen ∷ less_than ∷ []) c out 3 less_than (lit< tt) refl, no (hyphen ∷ less_than ∷ []) c out 0 null (lit< tt) refl, and-false (c == greater_than), no (hyphen ∷ less_than ∷ []) c out 2 hyphen (lit< tt) refl) refl
step-run exact (Between (RawText (DoubleEscaped NoDash) name)) others c how has other =
    let out : ¬ Contains (run_ends (hyphen ∷ less_than ∷ [])) c = known (hyphen ∷ less_than ∷ []) others c has other in
    rw (no (hyphen ∷ less_than ∷ []) c out 3 less_than (lit< tt) refl, no (hyphen ∷ less_than ∷ []) c out 0 null (lit< tt) refl, and-false (c == greater_than), no (hyphen ∷ less_than ∷ []) c out 2 hyphen (lit< tt) refl) refl
step-run exact (Between (RawText (Escaped OneDash) name)) others c how has other = absurd (none≢some has)
step-run exact (Between (RawText (Escaped TwoDashes) name)) others c how has other = absurd (none≢some has)
step-run exact (Between (RawText (DoubleEscaped OneDash) name)) others c how has other = absurd (none≢some has)
step-run exact (Between (RawText (DoubleEscaped TwoDashes) name)) others c how has other = absurd (none≢some has)
step-run exact LessThan others c how has other = absurd (none≢some has)
step-run exact LessThanSolidus others c how has other = absurd (none≢some has)
step-run exact (InTag InName tag) others c how has other =
    let out : ¬ Contains (run_ends (line_feed ∷ tab ∷ form_feed ∷ space ∷ solidus ∷ greater_than ∷ [])) c = known (line_feed ∷ tab ∷ form_feed ∷ space ∷ solidus ∷ greater_than ∷ []) others c has other in
    rw (no (line_feed ∷ tab ∷ form_feed ∷ space ∷ solidus ∷ greater_than ∷ []) c out 3 tab (lit< tt) refl, no (line_feed ∷ tab ∷ form_feed ∷ space ∷ solidus ∷ greater_than ∷ []) c out 2 line_feed (lit< tt) refl, no (line_feed ∷ tab ∷ form_feed ∷ space ∷ solidus ∷ greater_than ∷ []) c out 4 form_feed (lit< tt) refl, no (line_feed ∷ tab ∷ form_feed ∷ space ∷ solidus ∷ greater_than ∷ []) c out 5 space (lit< tt) refl, no (line_feed ∷ tab ∷ form_feed ∷ space ∷ solidus ∷ greater_than ∷ []) c out 6 solidus (lit< tt) refl, no (line_feed ∷ tab ∷ form_feed ∷ space ∷ solidus ∷ greater_than ∷ []) c out 7 greater_than (lit< tt) refl, no (line_feed ∷ tab ∷ form_feed ∷ space ∷ solidus ∷ greater_than ∷ []) c out 0 null (lit< tt) refl) refl
step-run exact (InTag BeforeAttribute tag) others c how has other = absurd (none≢some has)
step-run exact (InTag InAttributeName tag) others c how has other =
    let out : ¬ Contains (run_ends (line_feed ∷ tab ∷ form_feed ∷ space ∷ solidus ∷ greater_than ∷ equals_sign ∷ quotation_mark ∷ apostrophe ∷ less_than ∷ [])) c = known (line_feed ∷ tab ∷ form_feed ∷ space ∷ solidus ∷ greater_than ∷ equals_sign ∷ quotation_mark ∷ apostrophe ∷ less_than ∷ []) others c has other in
    rw (no (line_feed ∷ tab ∷ form_feed ∷ space ∷ solidus ∷ greater_than ∷ equals_sign ∷ quotation_mark ∷ apostrophe ∷ less_than ∷ []) c out 3 tab (lit< tt) refl, no (line_feed ∷ tab ∷ form_feed ∷ space ∷ solidus ∷ greater_than ∷ equals_sign ∷ quotation_mark ∷ apostrophe ∷ less_than ∷ []) c out 2 line_feed (lit< tt) refl, no (line_feed ∷ tab ∷ form_feed ∷ space ∷ solidus ∷ greater_than ∷ equals_sign ∷ quotation_mark ∷ apostrophe ∷ less_than ∷ []) c out 4 form_feed (lit< tt) refl, no (line_feed ∷ tab ∷ form_feed ∷ space ∷ solidus ∷ greater_than ∷ equals_sign ∷ quotation_mark ∷ apostrophe ∷ less_than ∷ []) c out 5 space (lit< tt) refl, no (line_feed ∷ tab ∷ form_feed ∷ space ∷ solidus ∷ greater_than ∷ equals_sign ∷ quotation_mark ∷ apostrophe ∷ less_than ∷ []) c out 6 solidus (lit< tt) refl, no (line_feed ∷ tab ∷ form_feed ∷ space ∷ solidus ∷ greater_than ∷ equals_sign ∷ quotation_mark ∷ apostrophe ∷ less_than ∷ []) c out 7 greater_than (lit< tt) refl, no (line_feed ∷ tab ∷ form_feed ∷ space ∷ solidus ∷ greater_than ∷ equals_sign ∷ quotation_mark ∷ apostrophe ∷ less_than ∷ []) c out 8 equals_sign (lit< tt) refl, no (line_feed ∷ tab ∷ form_feed ∷ space ∷ solidus ∷ greater_than ∷ equals_sign ∷ quotation_mark ∷ apostrophe ∷ less_than ∷ []) c out 0 null (lit< tt) refl, no (line_feed ∷ tab ∷ form_feed ∷ space ∷ solidus ∷ greater_than ∷ equals_sign ∷ quotation_mark ∷ apostrophe ∷ less_than ∷ []) c out 9 quotation_mark (lit< tt) refl, no (line_feed ∷ tab ∷ form_feed ∷ space ∷ solidus ∷ greater_than ∷ equals_sign ∷ quotation_mark ∷ apostrophe ∷ less_than ∷ []) c out 10 apostrophe (lit< tt) refl, no (line_feed ∷ tab ∷ form_feed ∷ space ∷ solidus ∷ greater_than ∷ equals_sign ∷ quotation_mark ∷ apostrophe ∷ less_than ∷ []) c out 11 less_than (lit< tt) refl) refl
step-run exact (InTag AfterAttributeName tag) others c how has other = absurd (none≢some has)
step-run exact (InTag BeforeValue tag) others c how has other = absurd (none≢some has)
step-run exact (InTag (InValue DoubleQuoted) tag) others c how has other =
    let out : ¬ Contains (run_ends (line_feed ∷ quotation_mark ∷ ampersand ∷ [])) c = known (line_feed ∷ quotation_mark ∷ ampersand ∷ []) others c has other in
    rw (no (line_feed ∷ quotation_mark ∷ ampersand ∷ []) c out 3 quotation_mark (lit< tt) refl, no (line_feed ∷ quotation_mark ∷ ampersand ∷ []) c out 4 ampersand (lit< tt) refl, no (line_feed ∷ quotation_mark ∷ ampersand ∷ []) c out 0 null (lit< tt) refl) refl
step-run exact (InTag (InValue SingleQuoted) tag) others c how has other =
    let out : ¬ Contains (run_ends (line_feed ∷ apostrophe ∷ ampersand ∷ [])) c = known (line_feed ∷ apostrophe ∷ ampersand ∷ []) others c has other in
    rw (no (line_feed ∷ apostrophe ∷ ampersand ∷ []) c out 3 apostrophe (lit< tt) refl, no (line_feed ∷ apostrophe ∷ ampersand ∷ []) c out 4 ampersand (lit< tt) refl, no (line_feed ∷ apostrophe ∷ ampersand ∷ []) c out 0 null (lit< tt) refl) refl
step-run exact (InTag (InValue Unquoted) tag) others c how has other =
    let out : ¬ Contains (run_ends (line_feed ∷ tab ∷ form_feed ∷ space ∷ ampersand ∷ greater_than ∷ [])) c = known (line_feed ∷ tab ∷ form_feed ∷ space ∷ ampersand ∷ greater_than ∷ []) others c has other in
    let loose : exact ≡ false = elim how [ inl loose ↦ loose | inr quoted ↦ absurd (false≢true (sym quoted)) ] in
    rw (loose, no (line_feed ∷ tab ∷ form_feed ∷ space ∷ ampersand ∷ greater_than ∷ []) c out 3 tab (lit< tt) refl, no (line_feed ∷ tab ∷ form_feed ∷ space ∷ ampersand ∷ greater_than ∷ []) c out 2 line_feed (lit< tt) refl, no (line_feed ∷ tab ∷ form_feed ∷ space ∷ ampersand ∷ greater_than ∷ []) c out 4 form_feed (lit< tt) refl, no (line_feed ∷ tab ∷ form_feed ∷ space ∷ ampersand ∷ greater_than ∷ []) c out 5 space (lit< tt) refl, no (line_feed ∷ tab ∷ form_feed ∷ space ∷ ampersand ∷ greater_than ∷ []) c out 7 greater_than (lit< tt) refl, no (line_feed ∷ tab ∷ form_feed ∷ space ∷ ampersand ∷ greater_than ∷ []) c out 6 ampersand (lit< tt) refl, no (line_feed ∷ tab ∷ form_feed ∷ space ∷ ampersand ∷ greater_than ∷ []) c out 0 null (lit< tt) refl) refl
step-run exact (InTag AfterQuotedValue tag) others c how has other = absurd (none≢some has)
step-run exact (InTag AfterSolidus tag) others c how has other = absurd (none≢some has)
step-run exact (InRaw place name) others c how has other = absurd (none≢some has)
step-run exact (InDeclaration held) others c how has other = absurd (none≢some has)
step-run exact (InComment text) others c how has other =
    let ends : (others ≡ line_feed ∷ hyphen ∷ greater_than ∷ []) × (ends_in text (codes "-") ≡ false) = comment_ends text others has in
    let out : ¬ Contains (run_ends (line_feed ∷ hyphen ∷ greater_than ∷ [])) c = subst (λ l. ¬ Contains (run_ends l) c) ends.0 other in
    rw (no (line_feed ∷ hyphen ∷ greater_than ∷ []) c out 4 greater_than (lit< tt) refl, no (line_feed ∷ hyphen ∷ greater_than ∷ []) c out 0 null (lit< tt) refl, ends_in_mark-none text ends.1, append-nil (value_bytes c)) refl
step-run exact (InBogusComment text) others c how has other =
    let out : ¬ Contains (run_ends (line_feed ∷ greater_than ∷ [])) c = known (line_feed ∷ greater_than ∷ []) others c has other in
    rw (no (line_feed ∷ greater_than ∷ []) c out 3 greater_than (lit< tt) refl, no (line_feed ∷ greater_than ∷ []) c out 0 null (lit< tt) refl, append-nil (value_bytes c)) refl
step-run exact (InInstruction content) others c how has other =
    let out : ¬ Contains (run_ends (line_feed ∷ greater_than ∷ [])) c = known (line_feed ∷ greater_than ∷ []) others c has other in
    rw (no (line_feed ∷ greater_than ∷ []) c out 3 greater_than (lit< tt) refl, no (line_feed ∷ greater_than ∷ []) c out 0 null (lit< tt) refl, append-nil (value_bytes c)) refl
step-run exact (InDoctype place doctype) others c how has other = absurd (none≢some has)
step-run exact (InDoctypeKeyword held doctype) others c how has other = absurd (none≢some has)
step-run exact (InCdata text) others c how has other =
    let out : ¬ Contains (run_ends (line_feed ∷ greater_than ∷ [])) c = known (line_feed ∷ greater_than ∷ []) others c has other in
    rw (no (line_feed ∷ greater_than ∷ []) c out 3 greater_than (lit< tt) refl, no (line_feed ∷ greater_than ∷ []) c out 0 null (lit< tt) refl) refl
step-run exact (InReference stand held) others c how has other = absurd (none≢some has)
