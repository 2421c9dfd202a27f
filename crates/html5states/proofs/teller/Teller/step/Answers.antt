-- One case a state: each hands on the clause of the state's function, where the tactic would try all of them.
use Rattle.std.proofs.Common.{◌≡◌, true, refl, ap, sym, ◌∙◌}
use Rattle.std.proofs.lemmas.Bool.{false≢true}
use Rattle.html5ever_interface.specs.declared.states.State.TheVariants as state
use Rattle.html5reading.specs.Machine.{step_at}
use Rattle.html5reading.specs.Start.{is_undecided_open}
use Rattle.html5partial.proofs.CommentStates.{open-comment}
use Rattle.html5partial.specs.CurrentTag.{open_of, is_comment_state, is_doctype_state}
use Rattle.html5states.proofs.Tellings.{reads_as}
use Rattle.html5states.proofs.teller.Teller.step.Goals as goal

-- what is left are the states of a comment
pub returns-in_default-2 : goal.returns-in_default-2
unfolding step_at
returns-in_default-2 g c =
    let at = c.args.at.now in
    let is_comment : is_comment_state at.state ≡ true =
    elim at.state as (λ q. at.state ≡ q → is_comment_state q ≡ true) [
      | state.Data ↦ λ e. absurd (c.in_default-2.not-Data e)
      | state.Plaintext ↦ λ e. absurd (c.in_default-2.not-Plaintext e)
      | state.TagOpen ↦ λ e. absurd (c.in_default-2.not-TagOpen e)
      | state.EndTagOpen ↦ λ e. absurd (c.in_default-2.not-EndTagOpen e)
      | state.TagName ↦ λ e. absurd (c.in_default-2.not-TagName e)
      | state.RawData kind ↦ λ e. absurd (c.in_default-2.not-RawData kind e)
      | state.RawLessThanSign kind ↦ λ e. absurd (c.in_default-2.not-RawLessThanSign kind e)
      | state.RawEndTagOpen kind ↦ λ e. absurd (c.in_default-2.not-RawEndTagOpen kind e)
      | state.RawEndTagName kind ↦ λ e. absurd (c.in_default-2.not-RawEndTagName kind e)
      | state.ScriptDataEscapeStart kind ↦ λ e. absurd (c.in_default-2.not-ScriptDataEscapeStart kind e)
      | state.ScriptDataEscapeStartDash ↦ λ e. absurd (c.in_default-2.not-ScriptDataEscapeStartDash e)
      | state.ScriptDataEscapedDash kind ↦ λ e. absurd (c.in_default-2.not-ScriptDataEscapedDash kind e)
      | state.ScriptDataEscapedDashDash kind ↦ λ e. absurd (c.in_default-2.not-ScriptDataEscapedDashDash kind e)
      | state.ScriptDataDoubleEscapeEnd ↦ λ e. absurd (c.in_default-2.not-ScriptDataDoubleEscapeEnd e)
      | state.BeforeAttributeName ↦ λ e. absurd (c.in_default-2.not-BeforeAttributeName e)
      | state.AttributeName ↦ λ e. absurd (c.in_default-2.not-AttributeName e)
      | state.AfterAttributeName ↦ λ e. absurd (c.in_default-2.not-AfterAttributeName e)
      | state.BeforeAttributeValue ↦ λ e. absurd (c.in_default-2.not-BeforeAttributeValue e)
      | state.AttributeValue kind ↦ λ e. absurd (c.in_default-2.not-AttributeValue kind e)
      | state.AfterAttributeValueQuoted ↦ λ e. absurd (c.in_default-2.not-AfterAttributeValueQuoted e)
      | state.SelfClosingStartTag ↦ λ e. absurd (c.in_default-2.not-SelfClosingStartTag e)
      | state.BogusComment ↦ λ e. absurd (c.in_default-2.not-BogusComment e)
      | state.MarkupDeclarationOpen ↦ λ e. absurd (false≢true (sym c.requires ∙ ap (λ q. is_undecided_open (open_of q at)) e))
      | state.CommentStart ↦ λ e. refl
      | state.CommentStartDash ↦ λ e. refl
      | state.Comment ↦ λ e. refl
      | state.CommentLessThanSign ↦ λ e. refl
      | state.CommentLessThanSignBang ↦ λ e. refl
      | state.CommentLessThanSignBangDash ↦ λ e. refl
      | state.CommentLessThanSignBangDashDash ↦ λ e. refl
      | state.CommentEndDash ↦ λ e. refl
      | state.CommentEnd ↦ λ e. refl
      | state.CommentEndBang ↦ λ e. refl
      | state.Doctype ↦ λ e. absurd (false≢true (sym c.if-is_doctype_state.false ∙ c.is_doctype_state.ensures ∙ ap is_doctype_state e))
      | state.BeforeDoctypeName ↦ λ e. absurd (false≢true (sym c.if-is_doctype_state.false ∙ c.is_doctype_state.ensures ∙ ap is_doctype_state e))
      | state.DoctypeName ↦ λ e. absurd (false≢true (sym c.if-is_doctype_state.false ∙ c.is_doctype_state.ensures ∙ ap is_doctype_state e))
      | state.AfterDoctypeName ↦ λ e. absurd (false≢true (sym c.if-is_doctype_state.false ∙ c.is_doctype_state.ensures ∙ ap is_doctype_state e))
      | state.AfterDoctypeKeyword kind ↦ λ e. absurd (false≢true (sym c.if-is_doctype_state.false ∙ c.is_doctype_state.ensures ∙ ap is_doctype_state e))
      | state.BeforeDoctypeIdentifier kind ↦ λ e. absurd (false≢true (sym c.if-is_doctype_state.false ∙ c.is_doctype_state.ensures ∙ ap is_doctype_state e))
      | state.DoctypeIdentifierDoubleQuoted kind ↦ λ e. absurd (false≢true (sym c.if-is_doctype_state.false ∙ c.is_doctype_state.ensures ∙ ap is_doctype_state e))
      | state.DoctypeIdentifierSingleQuoted kind ↦ λ e. absurd (false≢true (sym c.if-is_doctype_state.false ∙ c.is_doctype_state.ensures ∙ ap is_doctype_state e))
      | state.AfterDoctypeIdentifier kind ↦ λ e. absurd (false≢true (sym c.if-is_doctype_state.false ∙ c.is_doctype_state.ensures ∙ ap is_doctype_state e))
      | state.BetweenDoctypePublicAndSystemIdentifiers ↦ λ e. absurd (false≢true (sym c.if-is_doctype_state.false ∙ c.is_doctype_state.ensures ∙ ap is_doctype_state e))
      | state.BogusDoctype ↦ λ e. absurd (false≢true (sym c.if-is_doctype_state.false ∙ c.is_doctype_state.ensures ∙ ap is_doctype_state e))
      | state.CdataSection ↦ λ e. absurd (c.in_default-2.not-CdataSection e)
      | state.CdataSectionBracket ↦ λ e. refl
      | state.CdataSectionEnd ↦ λ e. refl
      | state.ProcessingInstruction ↦ λ e. absurd (c.in_default-2.not-ProcessingInstruction e)
    ] refl in
    reads_as c.comment_state.ensures (ap (λ o. step_at c.args.self.now.exact_errors o c.args.c) (open-comment at.state at is_comment)) refl
