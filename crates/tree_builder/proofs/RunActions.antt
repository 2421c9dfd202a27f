-- Runs of characters of one class: what is done with a run at once is what the definition does with each of its bytes.
use Rattle.std.specs.Prelude.{ℕ, zero, suc, Bool, true, false, List, [], ◌∷◌, ◌++◌, ◌<◌, length}
use Rattle.std.proofs.Common.{◌≡◌, refl, ap, sym, append_assoc, append-nil, arith, eq-eqb, ◌∙◌}
use Rattle.std.proofs.lemmas.List.Elements.{All-head, All-tail}
use Rattle.markup5ever.specs.Names.{AttributeOf}
use Rattle.tree_construction.specs.declared.kinds.Kind.{Kind}
use Rattle.tree_construction.specs.Formatting.{Listed, reconstructed, reopened, still_listed, to_reopen}
use Rattle.tree_construction.specs.Page.{Open, has_number, has_open}
use Rattle.tree_construction.specs.Parser.{Entry, Parser, insert_character, not_frameset_ok, unexpected}
use Rattle.tree_construction.specs.Parser.Entry.{Marker, Active}
use Rattle.tree_construction.specs.Tables.{flushed_fostered}
use Rattle.tree_sink.specs.Sinks.{mistaken_text_put, text_put}
use Rattle.tree_builder.specs.Built.{texted, unfostered}
use Rattle.tree_builder.specs.Characters.{AllOf, IsOf, acted, acted_all, before_fostered, fostering, mistaken_text, parted_text, refused_and_replaced, refused_twice, repeated}
use Rattle.tree_builder.specs.declared.characters.TextClass.TheVariants.{Null, Space, Other}
use Rattle.tree_builder.specs.declared.characters.TextAction.TheVariants.{Collect, Foster, Ignore, Insert, InsertForeign, InsertInBody, Refuse, Replace, Reprocess}

-- ---- characters that are inserted, or collected

pub inserted_all : (text : List ℕ) (p : Parser) → acted_all Insert text p ≡ texted text p
unfolding acted_all text_put
inserted_all [] p = refl
inserted_all (c ∷ text) p = inserted_all text (acted Insert c p)

pub collected_all : (text : List ℕ) (p : Parser) → acted_all Collect text p ≡ record p { pending = p.pending ++ text }
unfolding acted_all
collected_all [] p = ap (λ bytes. record p { pending = bytes }) (sym (append-nil p.pending))
collected_all (c ∷ text) p =
    collected_all text (acted Collect c p) ∙ ap (λ bytes. record p { pending = bytes }) (append_assoc p.pending (c ∷ []) text)

pub foreign-all : (c : ℕ) (text : List ℕ) (p : Parser) → acted_all InsertForeign (c ∷ text) p ≡ not_frameset_ok (texted (c ∷ text) p)
unfolding acted_all text_put
foreign-all c [] p = refl
foreign-all c (d ∷ text) p = foreign-all d text (acted InsertForeign c p)

pub foreign_text : (text : List ℕ) (p : Parser) → 0 < length text → acted_all InsertForeign text p ≡ not_frameset_ok (texted text p)
foreign_text [] p some = absurd (omega (arith, some))
foreign_text (c ∷ text) p some = foreign-all c text p

pub ignored_all : (text : List ℕ) (p : Parser) → acted_all Ignore text p ≡ p
unfolding acted_all
ignored_all [] p = refl
ignored_all (c ∷ text) p = ignored_all text p

pub reprocessed_all : (text : List ℕ) (p : Parser) → acted_all Reprocess text p ≡ p
unfolding acted_all
reprocessed_all [] p = refl
reprocessed_all (c ∷ text) p = reprocessed_all text p

-- ---- what is done as often as there are bytes

repeated-first : (change : Parser → Parser) (n : ℕ) (p : Parser) → repeated change n (change p) ≡ change (repeated change n p)
unfolding repeated
repeated-first change zero p = refl
repeated-first change (suc n) p = ap change (repeated-first change n p)

pub repeated_refuse : (text : List ℕ) (p : Parser) → acted_all Refuse text p ≡ repeated unexpected (length text) p
unfolding acted_all repeated
repeated_refuse [] p = refl
repeated_refuse (c ∷ text) p = repeated_refuse text (unexpected p) ∙ repeated-first unexpected (length text) p

pub repeated_replace : (text : List ℕ) (p : Parser) → acted_all Replace text p ≡ repeated refused_and_replaced (length text) p
unfolding acted_all repeated
repeated_replace [] p = refl
repeated_replace (c ∷ text) p =
    repeated_replace text (refused_and_replaced p) ∙ repeated-first refused_and_replaced (length text) p

-- U+0000 is a parse error twice
fostered-null : (c : ℕ) (p : Parser) → IsOf Null c → acted Foster c p ≡ refused_twice p
fostered-null c p is = rw is.null refl

pub repeated_null : (text : List ℕ) (p : Parser) → AllOf Null text → acted_all Foster text p ≡ repeated refused_twice (length text) p
unfolding acted_all repeated
repeated_null [] p all = refl
repeated_null (c ∷ text) p all =
    let is : IsOf Null c = All-head (IsOf Null) c text all in
    ap (acted_all Foster text) (fostered-null c p is)
    ∙ (repeated_null text (refused_twice p) (All-tail (IsOf Null) c text all) ∙ repeated-first refused_twice (length text) p)

-- ---- active formatting elements that were reconstructed are all open

abbrev pub IsStill : Parser → Type 0
IsStill p = (to_reopen p.page.opened p.formatting ≡ []) × (still_listed p.page.opened p.formatting ≡ p.formatting)

listed-by : (opened : List Open) (n : ℕ) (kind : Kind) (name : List ℕ) (attributes : List AttributeOf) (list : List Entry) (b : Bool)
    → has_open (has_number n) opened ≡ b
    → (to_reopen opened (still_listed opened list) ≡ []) × (still_listed opened (still_listed opened list) ≡ still_listed opened list)
    → (to_reopen opened (still_listed opened (Active n kind name attributes ∷ list)) ≡ [])
    × (still_listed opened (still_listed opened (Active n kind name attributes ∷ list)) ≡ still_listed opened (Active n kind name attributes ∷ list))
unfolding to_reopen still_listed
listed-by opened n kind name attributes list true e later = (rw e (rw e refl), rw e (rw e refl))
listed-by opened n kind name attributes list false e later = (rw e later.0, rw e later.1)

still-listed : (opened : List Open) (list : List Entry)
    → (to_reopen opened (still_listed opened list) ≡ []) × (still_listed opened (still_listed opened list) ≡ still_listed opened list)
unfolding to_reopen still_listed
still-listed opened [] = (refl, refl)
still-listed opened (Marker ∷ list) = (refl, refl)
still-listed opened (Active n kind name attributes ∷ list) =
    listed-by opened n kind name attributes list (has_open (has_number n) opened) refl (still-listed opened list)

still-reopened : (es : List Listed) (p : Parser) → IsStill p → IsStill (reopened es p)
unfolding reopened to_reopen still_listed has_open
still-reopened [] p still = still
still-reopened (e ∷ es) p still =
    let n : ℕ = (reopened es p).page.next in
    (rw (eq-eqb n n refl) refl, rw (eq-eqb n n refl) refl)

pub still-after : (p : Parser) → IsStill (reconstructed p)
still-after p =
    still-reopened (to_reopen p.page.opened p.formatting) (record p { formatting = still_listed p.page.opened p.formatting })
    (still-listed p.page.opened p.formatting)

pub still-is : (p : Parser) → IsStill p → reconstructed p ≡ p
unfolding reopened
still-is p still = rw (still.0, still.1) refl

-- ---- "in body"

pub refused-all : (text : List ℕ) (p : Parser) → AllOf Null text → acted_all InsertInBody text p ≡ acted_all Refuse text p
unfolding acted_all
refused-all [] p all = refl
refused-all (c ∷ text) p all =
    let is : IsOf Null c = All-head (IsOf Null) c text all in
    ap (acted_all InsertInBody text) (rw is.null refl) ∙ refused-all text (unexpected p) (All-tail (IsOf Null) c text all)

spaces-still : (text : List ℕ) (p : Parser) → AllOf Space text → IsStill p → acted_all InsertInBody text p ≡ texted text p
unfolding acted_all text_put
spaces-still [] p all still = refl
spaces-still (c ∷ text) p all still =
    let is : IsOf Space c = All-head (IsOf Space) c text all in
    let first : acted InsertInBody c p ≡ insert_character c p = rw (is.null, is.space, still-is p still) refl in
    ap (acted_all InsertInBody text) first ∙ spaces-still text (insert_character c p) (All-tail (IsOf Space) c text all) still

pub spaces-all : (c : ℕ) (text : List ℕ) (p : Parser) → AllOf Space (c ∷ text)
    → acted_all InsertInBody (c ∷ text) p ≡ texted (c ∷ text) (reconstructed p)
unfolding acted_all text_put
spaces-all c text p all =
    let is : IsOf Space c = All-head (IsOf Space) c text all in
    let q : Parser = insert_character c (reconstructed p) in
    let first : acted InsertInBody c p ≡ q = rw (is.null, is.space) refl in
    ap (acted_all InsertInBody text) first ∙ spaces-still text q (All-tail (IsOf Space) c text all) (still-after p)

others-still : (text : List ℕ) (p : Parser) → AllOf Other text → IsStill p
    → acted_all InsertInBody text (not_frameset_ok p) ≡ not_frameset_ok (texted text p)
unfolding acted_all text_put
others-still [] p all still = refl
others-still (c ∷ text) p all still =
    let is : IsOf Other c = All-head (IsOf Other) c text all in
    let first : acted InsertInBody c (not_frameset_ok p) ≡ not_frameset_ok (insert_character c p) =
    rw (is.null, is.space, still-is (not_frameset_ok p) still) refl in
    ap (acted_all InsertInBody text) first ∙ others-still text (insert_character c p) (All-tail (IsOf Other) c text all) still

pub others-all : (c : ℕ) (text : List ℕ) (p : Parser) → AllOf Other (c ∷ text)
    → acted_all InsertInBody (c ∷ text) p ≡ not_frameset_ok (texted (c ∷ text) (reconstructed p))
unfolding acted_all text_put
others-all c text p all =
    let is : IsOf Other c = All-head (IsOf Other) c text all in
    let q : Parser = insert_character c (reconstructed p) in
    let first : acted InsertInBody c p ≡ not_frameset_ok q = rw (is.null, is.space) refl in
    ap (acted_all InsertInBody text) first ∙ others-still text q (All-tail (IsOf Other) c text all) (still-after p)

pub spaces_in_body : (text : List ℕ) (p : Parser) → 0 < length text → AllOf Space text
    → acted_all InsertInBody text p ≡ texted text (reconstructed p)
spaces_in_body [] p some all = absurd (omega (arith, some))
spaces_in_body (c ∷ text) p some all = spaces-all c text p all

pub others_in_body : (text : List ℕ) (p : Parser) → 0 < length text → AllOf Other text
    → acted_all InsertInBody text p ≡ not_frameset_ok (texted text (reconstructed p))
others_in_body [] p some all = absurd (omega (arith, some))
others_in_body (c ∷ text) p some all = others-all c text p all

-- ---- "in table"

pub flushed-all : (text : List ℕ) (p : Parser) → acted_all Foster text p ≡ flushed_fostered text p
unfolding acted_all flushed_fostered
flushed-all [] p = refl
flushed-all (c ∷ text) p = flushed-all text (acted Foster c p)

-- that foster parenting is enabled doesn't change by elements that are opened again
kept-fostering : (es : List Listed) (p : Parser) → (reopened es p).fostering ≡ p.fostering
unfolding reopened
kept-fostering [] p = refl
kept-fostering (e ∷ es) p = kept-fostering es p

is-fostering : (p : Parser) → p.fostering ≡ true → fostering p ≡ p
is-fostering p on = ap (λ b. record p { fostering = b }) (sym on)

before-fosters : (p : Parser) → (before_fostered p).fostering ≡ true
before-fosters p =
    let q : Parser = fostering (unexpected p) in
    kept-fostering (to_reopen q.page.opened q.formatting) (record q { formatting = still_listed q.page.opened q.formatting })

fostered-spaces-still : (text : List ℕ) (p : Parser) → AllOf Space text → IsStill p
    → acted_all Foster text (unfostered p) ≡ unfostered (mistaken_text text (fostering p))
unfolding acted_all mistaken_text_put
fostered-spaces-still [] p all still = refl
fostered-spaces-still (c ∷ text) p all still =
    let is : IsOf Space c = All-head (IsOf Space) c text all in
    let q : Parser = insert_character c (fostering (unexpected p)) in
    let first : acted Foster c (unfostered p) ≡ unfostered q =
    rw (is.null, is.space) (ap (λ r. unfostered (insert_character c r)) (still-is (fostering (unexpected p)) still)) in
    ap (acted_all Foster text) first ∙ fostered-spaces-still text q (All-tail (IsOf Space) c text all) still

pub fostered-spaces : (c : ℕ) (text : List ℕ) (p : Parser) → AllOf Space (c ∷ text)
    → acted_all Foster (c ∷ text) p ≡ unfostered (parted_text (c ∷ text) (before_fostered p))
unfolding acted_all
fostered-spaces c text p all =
    let is : IsOf Space c = All-head (IsOf Space) c text all in
    let q : Parser = insert_character c (before_fostered p) in
    let first : acted Foster c p ≡ unfostered q = rw (is.null, is.space) refl in
    ap (acted_all Foster text) first
    ∙ (fostered-spaces-still text q (All-tail (IsOf Space) c text all) (still-after (fostering (unexpected p)))
    ∙ ap (λ r. unfostered (mistaken_text text r)) (is-fostering q (before-fosters p)))

fostered-others-still : (text : List ℕ) (p : Parser) → AllOf Other text → IsStill p
    → acted_all Foster text (not_frameset_ok (unfostered p)) ≡ not_frameset_ok (unfostered (mistaken_text text (fostering p)))
unfolding acted_all mistaken_text_put
fostered-others-still [] p all still = refl
fostered-others-still (c ∷ text) p all still =
    let is : IsOf Other c = All-head (IsOf Other) c text all in
    let q : Parser = insert_character c (fostering (unexpected p)) in
    let first : acted Foster c (not_frameset_ok (unfostered p)) ≡ not_frameset_ok (unfostered q) =
    rw (is.null, is.space)
    (ap (λ r. not_frameset_ok (unfostered (insert_character c r))) (still-is (not_frameset_ok (fostering (unexpected p))) still)) in
    ap (acted_all Foster text) first ∙ fostered-others-still text q (All-tail (IsOf Other) c text all) still

pub fostered-others : (c : ℕ) (text : List ℕ) (p : Parser) → AllOf Other (c ∷ text)
    → acted_all Foster (c ∷ text) p ≡ not_frameset_ok (unfostered (parted_text (c ∷ text) (before_fostered p)))
unfolding acted_all
fostered-others c text p all =
    let is : IsOf Other c = All-head (IsOf Other) c text all in
    let q : Parser = insert_character c (before_fostered p) in
    let first : acted Foster c p ≡ not_frameset_ok (unfostered q) = rw (is.null, is.space) refl in
    ap (acted_all Foster text) first
    ∙ (fostered-others-still text q (All-tail (IsOf Other) c text all) (still-after (fostering (unexpected p)))
    ∙ ap (λ r. not_frameset_ok (unfostered (mistaken_text text r))) (is-fostering q (before-fosters p)))

pub spaces_fostered : (text : List ℕ) (p : Parser) → 0 < length text → AllOf Space text
    → acted_all Foster text p ≡ unfostered (parted_text text (before_fostered p))
spaces_fostered [] p some all = absurd (omega (arith, some))
spaces_fostered (c ∷ text) p some all = fostered-spaces c text p all

pub others_fostered : (text : List ℕ) (p : Parser) → 0 < length text → AllOf Other text
    → acted_all Foster text p ≡ not_frameset_ok (unfostered (parted_text text (before_fostered p)))
others_fostered [] p some all = absurd (omega (arith, some))
others_fostered (c ∷ text) p some all = fostered-others c text p all
