-- The parser follows the standard's elements: after a tag after which these ask for nothing, the tokenizer goes on.
use Rattle.std.proofs.Common.{◌≡◌, ℕ, Bool, true, false, List, [], ◌∷◌, refl, ap, sym, ◌∙◌, subst}
use Rattle.std.specs.Prelude.{◌&&◌, not, codes, if◌then◌else◌}
use Rattle.std.specs.List.{list_all}
use Rattle.std.specs.Str.{bytes_eq}
use Rattle.std.proofs.lemmas.Bool.{and_parts, false≢true}
use Rattle.markup5ever.proofs.NameOrder.{bytes_eq-same}
use Rattle.html5ever_interface.specs.Token.{Reply, TagOf, keeps_state}
use Rattle.html5ever_interface.specs.Token.Told.{Tag}
use Rattle.html5ever_interface.specs.Token.Reply.{KeepOn}
use Rattle.html5ever_interface.specs.declared.interface.token.TagKind.{TagKind}
use Rattle.html5ever_interface.specs.declared.interface.token.TagKind.TheVariants.{EndTag as IsEnd, StartTag as IsStart}
use Rattle.html5sinks.specs.Replies.{raw_text_in, reply_by_kind, standard_reply, standard_reply_to_start}
use Rattle.tree_construction.specs.Construction.{enough, is_ignored_newline, is_self_closing, process, run, step}
use Rattle.tree_construction.specs.declared.mistakes.Mistake.TheVariants.{TrailingSolidus}
use Rattle.tree_construction.specs.Names.{NamesOf, all_names, is_among, kind_in, kind_of}
use Rattle.tree_construction.specs.Parser.{Parser, mistaken}
use Rattle.tree_construction.specs.Parser.Request.{GoOn}
use Rattle.tree_construction.specs.Text.{replied_by, reply_of}
use Rattle.tree_construction.specs.Tokens.{Token}
use Rattle.tree_construction.specs.Tokens.Token.{EndTag, StartTag}
use Rattle.tree_laws.proofs.Calm.{IsCalm, asks_text, asks_text_by, calm-if-parser}
use Rattle.tree_laws.proofs.CalmSteps.{calm-process}

-- ---- a name after which a start tag asks for no text

unfoldable pub text_names : List (List ℕ)
text_names =
    codes "title" ∷ codes "textarea" ∷ codes "style" ∷ codes "noframes" ∷ codes "xmp" ∷ codes "iframe" ∷ codes "noembed" ∷ codes "script"
    ∷ codes "plaintext" ∷ []

-- one of these names, by a property that all of them have
among-these : (test : List ℕ → Bool) (name : List ℕ) (names : List (List ℕ)) → list_all test names ≡ true → is_among name names ≡ true
    → test name ≡ true
unfolding is_among
among-these test name [] all among = absurd (false≢true among)
among-these test name (other ∷ names) all among =
    let both = and_parts (test other) (list_all test names) all in
    by_test (bytes_eq other name) refl among (among-these test name names both.1) both.0
  where
    by_test : (same : Bool) → bytes_eq other name ≡ same → (if same then true else is_among name names) ≡ true
        → (is_among name names ≡ true → test name ≡ true) → test other ≡ true → test name ≡ true
    by_test true same among rest first = subst (λ n. test n ≡ true) (bytes_eq-same other name same) first
    by_test false same among rest first = rest among

-- the same of a property
unfoldable pub AllOf : (List ℕ → Type 0) → List (List ℕ) → Type 0
AllOf P [] = Unit {0}
AllOf P (name ∷ names) = P name × AllOf P names

pub among-all : (P : List ℕ → Type 0) (name : List ℕ) (names : List (List ℕ)) → AllOf P names → is_among name names ≡ true → P name
unfolding is_among AllOf
among-all P name [] all among = absurd (false≢true among)
among-all P name (other ∷ names) all among = by_test (bytes_eq other name) refl among (among-all P name names all.1)
  where
    by_test : (same : Bool) → bytes_eq other name ≡ same → (if same then true else is_among name names) ≡ true
        → (is_among name names ≡ true → P name) → P name
    by_test true same among rest = subst P (bytes_eq-same other name same) all.0
    by_test false same among rest = rest among

-- a row of the table that asks for text has such names alone
unfoldable pub is_row_of_texts : NamesOf → Bool
is_row_of_texts row = if asks_text row.kind then list_all (λ name. is_among name text_names) row.names else true

pub text-name : (rows : List NamesOf) (name : List ℕ) → list_all is_row_of_texts rows ≡ true → asks_text (kind_in rows name) ≡ true
    → is_among name text_names ≡ true
unfolding kind_in is_row_of_texts
text-name [] name all asks = absurd (false≢true asks)
text-name (row ∷ rows) name all asks =
    let both = and_parts (is_row_of_texts row) (list_all is_row_of_texts rows) all in
    by_test (is_among name row.names) refl asks (text-name rows name both.1)
  where
    own : asks_text row.kind ≡ true → is_row_of_texts row ≡ true → list_all (λ n. is_among n text_names) row.names ≡ true
    own asks is = subst (λ test. (if test then list_all (λ n. is_among n text_names) row.names else true) ≡ true) asks is

    by_test : (among : Bool) → is_among name row.names ≡ among → asks_text (if among then row.kind else kind_in rows name) ≡ true
        → (asks_text (kind_in rows name) ≡ true → is_among name text_names ≡ true) → is_among name text_names ≡ true
    by_test true among asks rest =
        among-these (λ n. is_among n text_names) name row.names (own asks (and_parts (is_row_of_texts row) (list_all is_row_of_texts rows) all).0) among
    by_test false among asks rest = rest asks

asks-by-name : (name : List ℕ) → asks_text (kind_of name) ≡ true → not (keeps_state (standard_reply_to_start name)) ≡ true
unfolding kind_of all_names is_row_of_texts text_names is_among standard_reply_to_start raw_text_in
asks-by-name name asks =
    among-these (λ n. not (keeps_state (standard_reply_to_start n))) name text_names refl (text-name all_names name refl asks)

quiet-name : (name : List ℕ) → standard_reply_to_start name ≡ KeepOn → asks_text (kind_of name) ≡ false
quiet-name name keeps = by_test (asks_text (kind_of name)) refl
  where
    by_test : (asks : Bool) → asks_text (kind_of name) ≡ asks → asks ≡ false
    by_test false is = refl
    by_test true is =
        absurd (false≢true (sym (ap (λ (r : Reply (Unit {0})). not (keeps_state r)) keeps) ∙ asks-by-name name is))

-- ---- a step

pub calm-step : (token : Token) (p : Parser) → asks_text_by token ≡ false → p.options.scripting ≡ false → IsCalm (step token p)
unfolding reply_of step
calm-step token p quiet off =
    let fresh : Parser = record p { ignores_newline = false; request = GoOn; acknowledged = false } in
    let calm : IsCalm fresh = record { goes_on = refl; without_scripting = off } in
    let later : Parser = process (enough p) token fresh in
    let kept : IsCalm later = calm-process (enough p) token quiet fresh calm in
    let noted : Parser = if is_self_closing token && not later.acknowledged then mistaken TrailingSolidus later else later in
    calm-if-parser (is_ignored_newline p.ignores_newline token) fresh noted calm
    (calm-if-parser (is_self_closing token && not later.acknowledged) (mistaken TrailingSolidus later) later kept kept)

follows-by-kind : (p : Parser) (tag : TagOf) (line : ℕ) (kind : TagKind) → p.options.scripting ≡ false → reply_by_kind kind tag.name ≡ KeepOn
    → keeps_state (replied_by p (Tag (record tag { kind = kind })) line) ≡ true
unfolding run
follows-by-kind p tag line IsStart off keeps =
    (calm-step (StartTag (record { name = tag.name; attributes = tag.attributes; self_closing = tag.self_closing })) p (quiet-name tag.name keeps) off).goes_on
follows-by-kind p tag line IsEnd off keeps = (calm-step (EndTag tag.name) p refl off).goes_on

pub follows : (p : Parser) (tag : TagOf) (line : ℕ) → p.options.scripting ≡ false → standard_reply tag ≡ KeepOn
    → keeps_state (replied_by p (Tag tag) line) ≡ true
follows p tag line off keeps = follows-by-kind p tag line tag.kind off keeps
