-- A `>` that ends a tag without an error.
use Rattle.std.proofs.Common.{◌≡◌, ℕ, Bool, arith, true, false, [], refl, ◌∙◌, sym, length}
use Rattle.std.proofs.lemmas.Bool.Decides.{nat_tests}
use Rattle.std.specs.Prelude.{◌++◌, ◌∷◌, ◌&&◌, nat_eq, not, if◌then◌else◌}
use Rattle.html5ever_interface.specs.declared.interface.token.TagKind.{TagKind}
use Rattle.html5ever_interface.specs.declared.interface.token.TagKind.TheVariants.{StartTag, EndTag}
use Rattle.html5reading.specs.Machine.{closing_step}
use Rattle.html5reading.specs.Reading.Here.{TellsTag}
use Rattle.html5reading.specs.Start.{OpenTag}
use Rattle.html5reading.specs.Tag.{attribute, duplicate_error, end_tag_errors, has_last, repeats_attribute, told_tag, with_last_attribute}

kind-if : (test : Bool) (p q : OpenTag) (kind : TagKind) → p.kind ≡ kind → q.kind ≡ kind → (if test then p else q).kind ≡ kind
kind-if true p q kind first second = first
kind-if false p q kind first second = second

kind-kept : (tag : OpenTag) → (with_last_attribute tag).kind ≡ tag.kind
unfolding with_last_attribute
kind-kept tag =
    let dropped : OpenTag = record tag { had_duplicate_attributes = true; last_name = []; last_value = [] } in
    let pushed : OpenTag = record tag { attributes = tag.attributes ++ attribute tag.last_name tag.last_value ∷ []; last_name = []; last_value = [] } in
    kind-if (not (has_last tag)) tag (if repeats_attribute tag then dropped else pushed) tag.kind refl (kind-if (repeats_attribute tag) dropped pushed tag.kind refl refl)

-- a start tag has none of the errors of an end tag
pub start-faultless : (tag : OpenTag) (self_closing : Bool) → tag.kind ≡ StartTag → end_tag_errors (with_last_attribute tag) self_closing ≡ []
unfolding end_tag_errors
start-faultless tag self_closing start = rw (kind-kept tag ∙ start) refl

none-last : (tag : OpenTag) → length tag.last_name ≡ 0 → with_last_attribute tag ≡ tag
unfolding with_last_attribute
none-last tag none = rw none refl

-- a count of which it is false that it isn't zero is zero
pub none-left : (count : ℕ) → not (nat_eq count 0) ≡ false → count ≡ 0
none-left count none = grind (arith, nat_tests)

-- nor has an end tag without attributes that doesn't close itself
pub end-faultless : (tag : OpenTag) (self_closing : Bool) → tag.kind ≡ EndTag → self_closing ≡ false → length tag.attributes ≡ 0 → length tag.last_name ≡ 0
    → end_tag_errors (with_last_attribute tag) self_closing ≡ []
unfolding end_tag_errors
end-faultless tag self_closing end open_still attributes none = rw (none-last tag none) (rw (end, open_still, attributes) refl)

not-true : (test : Bool) → true ≡ not test → test ≡ false
not-true true h = h
not-true false h = refl

-- the tag ends quietly, where its last attribute is new and it has no error
pub closing-quiet : (tag closed : OpenTag) (self_closing kept : Bool) → kept ≡ true → kept ≡ not (has_last tag && repeats_attribute tag)
    → closed ≡ with_last_attribute tag → end_tag_errors (with_last_attribute tag) self_closing ≡ []
    → closing_step [] tag self_closing ≡ TellsTag [] (told_tag closed self_closing)
unfolding closing_step duplicate_error
closing-quiet tag closed self_closing kept is_kept is same none =
    rw (not-true (has_last tag && repeats_attribute tag) (sym is_kept ∙ is), none, same) refl
