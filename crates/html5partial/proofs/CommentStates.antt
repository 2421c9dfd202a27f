-- What is open in a state of a comment.
use Rattle.std.proofs.Common.{◌≡◌, true, refl, string_bytes}
use Rattle.std.proofs.lemmas.Bool.{false≢true}
use Rattle.html5ever_interface.specs.declared.states.State.{State}
use Rattle.html5ever_interface.specs.declared.states.State.TheVariants as state
use Rattle.html5reading.specs.Start.Open.{InComment}
use Rattle.html5partial.specs.CurrentTag.{open_of, is_comment_state}
use Rattle.html5partial.specs.declared.opened.Opened.{Opened}

-- in each state of a comment a comment is open, with its text
pub open-comment : {Z : Type 0} → (s : State) (at : Opened Z) → is_comment_state s ≡ true → open_of s at ≡ InComment (string_bytes at.comment)
open-comment state.Comment at h = refl
open-comment state.CommentStart at h = refl
open-comment state.CommentStartDash at h = refl
open-comment state.CommentLessThanSign at h = refl
open-comment state.CommentLessThanSignBang at h = refl
open-comment state.CommentLessThanSignBangDash at h = refl
open-comment state.CommentLessThanSignBangDashDash at h = refl
open-comment state.CommentEndDash at h = refl
open-comment state.CommentEnd at h = refl
open-comment state.CommentEndBang at h = refl
open-comment state.CdataSectionBracket at h = refl
open-comment state.CdataSectionEnd at h = refl
open-comment other at h = absurd (false≢true h)
