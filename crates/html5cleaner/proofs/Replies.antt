-- After an allowed element the standard keeps on.
use Rattle.std.proofs.Common.{◌≡◌, ℕ, Bool, true, false, List, [], ◌∷◌, refl, sym, ap, ◌∙◌}
use Rattle.std.specs.Prelude.{◌&&◌, codes, encode_utf8_all}
use Rattle.std.specs.List.{list_all}
use Rattle.std.specs.Str.{bytes_eq}
use Rattle.std.proofs.lemmas.Bool.{false≢true}
use Rattle.markup5ever.proofs.NameOrder.{bytes_eq-same}
use Rattle.html5ever_interface.specs.Token.{Told, Reply}
use Rattle.html5ever_interface.specs.Token.Reply.{KeepOn}
use Rattle.html5sinks.specs.Replies.{FollowsStandard, raw_text_in, standard_reply_to_start}
use Rattle.html5write.specs.Pieces.{Piece, can_write}
use Rattle.html5write.specs.Pieces.Piece.{TextPiece, StartTagPiece, EndTagPiece, CommentPiece}
use Rattle.html5write.specs.Told.{KeepsOn, KeepsOnAfterPiece, start_tag_told, end_tag_told}
use Rattle.html5policy.specs.Names.{always_hides}
use Rattle.html5policy.specs.Policy.{PolicyOf, is_allowed}
use Rattle.html5policy.specs.Rules.{IsSound}
use Rattle.html5policy.proofs.Soundness.{allowed-shows}
use Rattle.html5cleaner.specs.Allowed.{is_allowed_piece, is_clean, is_written_attribute}

pub and-left : (a b : Bool) → (a && b) ≡ true → a ≡ true
and-left true b both = refl
and-left false b both = both

pub and-right : (a b : Bool) → (a && b) ≡ true → b ≡ true
and-right true b both = both
and-right false b both = absurd (false≢true both)

-- a name that hides nothing is not one that does
other-name : (name raw : List ℕ) (same : Bool) → bytes_eq name raw ≡ same → always_hides name ≡ false → always_hides raw ≡ true → same ≡ false
other-name name raw true is shows hides = absurd (false≢true (sym shows ∙ ap always_hides (bytes_eq-same name raw is) ∙ hides))
other-name name raw false is shows hides = refl

no-raw : (name raw : List ℕ) → always_hides name ≡ false → always_hides raw ≡ true → bytes_eq name raw ≡ false
no-raw name raw shows hides = other-name name raw (bytes_eq name raw) refl shows hides

shown-keeps_on : (name : List ℕ) → always_hides name ≡ false → standard_reply_to_start name ≡ KeepOn
unfolding standard_reply_to_start raw_text_in always_hides
shown-keeps_on name shows =
    rw (
      no-raw name (codes "plaintext") shows refl,
      no-raw name (codes "title") shows refl,
      no-raw name (codes "textarea") shows refl,
      no-raw name (codes "style") shows refl,
      no-raw name (codes "xmp") shows refl,
      no-raw name (codes "iframe") shows refl,
      no-raw name (codes "noembed") shows refl,
      no-raw name (codes "noframes") shows refl,
      no-raw name (codes "script") shows refl,
    ) refl

pub allowed-keeps_on : (policy : PolicyOf) (name : List ℕ) → IsSound policy → is_allowed policy name ≡ true → standard_reply_to_start name ≡ KeepOn
allowed-keeps_on policy name sound allowed = shown-keeps_on name (allowed-shows policy name sound allowed)

module _ (policy : PolicyOf) (sound : IsSound policy) {S H : Type 0} (reply : S → Told → ℕ → Reply H) (follows : FollowsStandard {S = S} reply) where
  keeps_on-piece : (piece : Piece) → is_allowed_piece policy piece ≡ true → KeepsOnAfterPiece {S = S} reply piece
  unfolding is_allowed_piece
  keeps_on-piece (TextPiece text) allowed = tt
  keeps_on-piece (StartTagPiece name attributes) allowed =
      λ t line. follows t (start_tag_told name attributes) line
      (allowed-keeps_on policy (encode_utf8_all name) sound (and-left _ (list_all (is_written_attribute policy name) attributes) allowed))
  keeps_on-piece (EndTagPiece name) allowed = λ t line. follows t (end_tag_told name) line refl
  keeps_on-piece (CommentPiece text) allowed = tt

  pub keeps_on-page : (pieces : List Piece) → list_all (is_clean policy) pieces ≡ true → KeepsOn {S = S} reply pieces
  keeps_on-page [] clean = tt
  keeps_on-page (piece ∷ pieces) clean = (
    keeps_on-piece piece (and-left (is_allowed_piece policy piece) (can_write piece) (and-left (is_clean policy piece) (list_all (is_clean policy) pieces) clean)),
    keeps_on-page pieces (and-right (is_clean policy piece) (list_all (is_clean policy) pieces) clean),
  )
