-- A token is processed row after row, as often as the definition allows.
use Rattle.std.specs.Prelude.{ℕ, zero, suc, Bool, true, false, Some, None, if◌then◌else◌, ◌+◌, ◌<◌}
use Rattle.std.proofs.Common.{◌≡◌, refl, ap, arith, ◌∙◌}
use Rattle.tree_construction.specs.Construction.{dispatched, enough, expects_acknowledged, is_ignored_newline, process, step}
use Rattle.tree_construction.specs.Parser.{Again, Parser}
use Rattle.html5ever_interface.specs.Token.{doctype_of}
use Rattle.tree_names.specs.ElementNames.{name_bytes}
use Rattle.tree_construction.specs.Tokens.{StartTagOf, Token}
use Rattle.tree_construction.specs.Tokens.Token.{Doctype, StartTag, EndTag, Comment, EndOfFile}
use Rattle.tree_builder.specs.Built.{Built, as_image, on_parser}
use Rattle.tree_builder.specs.Characters.{fresh}
use Rattle.tree_builder.specs.Taking.{after_turn, other_token, unfostered_if}
use Rattle.tree_builder.specs.declared.tokens.OtherToken.{OtherToken}
use Rattle.tree_builder.specs.declared.tokens.OtherToken.TheVariants.{EndTag as EndTagOf, Comment as CommentOf, Doctype as DoctypeOf, EndOfFile as EndOfFileOf}

-- after so many rows this token is left, with this parser
pub record Processes (first : Token) (p : Parser) (rows : ℕ) (token : Token) (fostered : Bool) (q : Parser) : Type 0 where
  pub left : ℕ
  pub count : left + rows ≡ enough p
  pub reached : unfostered_if fostered (process left token q) ≡ process (enough p) first p

pub processes_first : (token : Token) (p : Parser) → Processes token p 0 token false p
processes_first token p = record { left = enough p; count = omega arith; reached = refl }

next-by : (first token later : Token) (p q r : Parser) (rows left : ℕ) (fostered more : Bool) → rows < enough p → left + rows ≡ enough p
    → unfostered_if fostered (process left token q) ≡ process (enough p) first p
    → ((again : Again) → after_turn again (Some more) r later ≡ unfostered_if fostered (dispatched again token q))
    → Processes first p (rows + 1) later more r
unfolding process
next-by first token later p q r rows zero fostered more within count reached turn = absurd (omega (arith, within, count))
next-by first token later p q r rows (suc left) fostered more within count reached turn = record {
  left = left;
  count = omega (arith, count);
  reached = turn (λ s again. process left again s) ∙ reached;
}

pub processes_next : (first token later : Token) (p q r : Parser) (rows : ℕ) (fostered more : Bool) → rows < enough p
    → Processes first p rows token fostered q
    → ((again : Again) → after_turn again (Some more) r later ≡ unfostered_if fostered (dispatched again token q))
    → Processes first p (rows + 1) later more r
processes_next first token later p q r rows fostered more within on turn =
    next-by first token later p q r rows on.left fostered more within on.count on.reached turn

done-by : (first token later : Token) (p q r : Parser) (rows left : ℕ) (fostered : Bool) → rows < enough p → left + rows ≡ enough p
    → unfostered_if fostered (process left token q) ≡ process (enough p) first p
    → ((again : Again) → after_turn again None r later ≡ unfostered_if fostered (dispatched again token q))
    → r ≡ process (enough p) first p
unfolding process
done-by first token later p q r rows zero fostered within count reached turn = absurd (omega (arith, within, count))
done-by first token later p q r rows (suc left) fostered within count reached turn = turn (λ s again. process left again s) ∙ reached

pub processes_done : (first token later : Token) (p q r : Parser) (rows : ℕ) (fostered : Bool) → rows < enough p
    → Processes first p rows token fostered q
    → ((again : Again) → after_turn again None r later ≡ unfostered_if fostered (dispatched again token q))
    → r ≡ process (enough p) first p
processes_done first token later p q r rows fostered within on turn =
    done-by first token later p q r rows on.left fostered within on.count on.reached turn

end-by : (first token : Token) (p q : Parser) (rows left : ℕ) (fostered : Bool) → rows ≡ enough p → left + rows ≡ enough p
    → unfostered_if fostered (process left token q) ≡ process (enough p) first p → unfostered_if fostered q ≡ process (enough p) first p
unfolding process
end-by first token p q rows zero fostered all count reached = reached
end-by first token p q rows (suc left) fostered all count reached = absurd (omega (arith, all, count))

pub processes_end : (first token : Token) (p q : Parser) (rows : ℕ) (fostered : Bool) → rows ≡ enough p
    → Processes first p rows token fostered q → unfostered_if fostered q ≡ process (enough p) first p
processes_end first token p q rows fostered all on = end-by first token p q rows on.left fostered all on.count on.reached

-- a builder of which the parser and what is known of the sink are known
pub built_is : {Q : Type 0} (b was : Built Q) (q : Parser) → b.parser ≡ q → b.telling ≡ was.telling → b ≡ on_parser (λ p. q) was
built_is b was q e t = ap (λ p. record b { parser = p }) e ∙ ap (λ told. record { parser = q; telling = told }) t

-- what is set before a token, and that no newline is ignored
pub step_other : {Z : Type 0} (token : OtherToken Z) (p : Parser) → step (other_token token) p ≡ process (enough p) (other_token token) (fresh p)
unfolding step
step_other (EndTagOf name) p = by p.ignores_newline
  where
    by : (b : Bool) → (if is_ignored_newline b (EndTag (name_bytes name.now)) then fresh p else process (enough p) (EndTag (name_bytes name.now)) (fresh p))
        ≡ process (enough p) (EndTag (name_bytes name.now)) (fresh p)
    by true = refl
    by false = refl
step_other (CommentOf text) p = by p.ignores_newline
  where
    by : (b : Bool) → (if is_ignored_newline b (Comment text.now) then fresh p else process (enough p) (Comment text.now) (fresh p))
        ≡ process (enough p) (Comment text.now) (fresh p)
    by true = refl
    by false = refl
step_other (DoctypeOf doctype) p = by p.ignores_newline
  where
    by : (b : Bool)
        → (if is_ignored_newline b (Doctype (doctype_of doctype.now)) then fresh p else process (enough p) (Doctype (doctype_of doctype.now)) (fresh p))
        ≡ process (enough p) (Doctype (doctype_of doctype.now)) (fresh p)
    by true = refl
    by false = refl
step_other EndOfFileOf p = by p.ignores_newline
  where
    by : (b : Bool) → (if is_ignored_newline b EndOfFile then fresh p else process (enough p) EndOfFile (fresh p))
        ≡ process (enough p) EndOfFile (fresh p)
    by true = refl
    by false = refl

-- no start tag, so no image
pub other_as_image : {Z : Type 0} (token : OtherToken Z) → as_image (other_token token) ≡ other_token token
other_as_image (EndTagOf name) = refl
other_as_image (CommentOf text) = refl
other_as_image (DoctypeOf doctype) = refl
other_as_image EndOfFileOf = refl

pub step_start : (tag : StartTagOf) (p : Parser)
    → step (StartTag tag) p ≡ expects_acknowledged (StartTag tag) (process (enough p) (StartTag tag) (fresh p))
unfolding step
step_start tag p = by p.ignores_newline
  where
    by : (b : Bool)
        → (if is_ignored_newline b (StartTag tag) then fresh p else expects_acknowledged (StartTag tag) (process (enough p) (StartTag tag) (fresh p)))
        ≡ expects_acknowledged (StartTag tag) (process (enough p) (StartTag tag) (fresh p))
    by true = refl
    by false = refl
