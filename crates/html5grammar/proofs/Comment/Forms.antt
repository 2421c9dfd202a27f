-- Each text after `<!--` is the content and the end of a comment, and more, or has no end.
use Rattle.std.proofs.Common.{◌≡◌, inl, inr, ℕ, Bool, true, false, List, [], ◌∷◌, ◌++◌, length, take, drop, refl, ap, sym, ◌∙◌, subst}
use Rattle.std.specs.Prelude.{◌==◌, ◌&&◌, ◌||◌, not, codes, nat_eq}
use Rattle.std.specs.Cmp.Lexicographic.{same_text}
use Rattle.std.proofs.lemmas.Bool.{false≢true, eqb-true, and_parts, and_from, or_cases, not-true, false_from_ne_true}
use Rattle.std.proofs.lemmas.List.{append_assoc, append-nil, nil_from_length, take-append-drop}
use Rattle.html5reading.specs.Characters.{greater_than}
use Rattle.html5reading.specs.Comment.{ends_in, without_last, is_lone_dash, ends_comment}
use Rattle.html5grammar.specs.Comment.{Ending, before_greater_than, begins_with, occurs, is_content, can_end_with}
use Rattle.html5grammar.specs.Comment.Ending.{Dashes, Bang, AtOnce, AfterDash}
use Rattle.html5grammar.proofs.Comment.Steps.{runs_on}
use Rattle.html5reading.proofs.TextEnds.{ends_in-front, ends_in-append}

-- ---- no end in a text, in two parts

runs_on-push : (b text : List ℕ) (c : ℕ) → runs_on b text ≡ true → ((c == greater_than) && ends_comment (b ++ text)) ≡ false → runs_on b (text ++ c ∷ []) ≡ true
unfolding runs_on
runs_on-push b [] c h e = rw (← append-nil b, e) refl
runs_on-push b (d ∷ text) c h e =
    let p = and_parts (not ((d == greater_than) && ends_comment b)) (runs_on (b ++ d ∷ []) text) h in
    and_from (not ((d == greater_than) && ends_comment b)) (runs_on (b ++ d ∷ []) (text ++ c ∷ [])) p.0
    (runs_on-push (b ++ d ∷ []) text c p.1 (subst (λ l. ((c == greater_than) && ends_comment l) ≡ false) (sym (append_assoc b (d ∷ []) text)) e))

runs_on-beginning : (b text later : List ℕ) → runs_on b (text ++ later) ≡ true → runs_on b text ≡ true
unfolding runs_on
runs_on-beginning b [] later h = refl
runs_on-beginning b (d ∷ text) later h =
    let p = and_parts (not ((d == greater_than) && ends_comment b)) (runs_on (b ++ d ∷ []) (text ++ later)) h in
    and_from (not ((d == greater_than) && ends_comment b)) (runs_on (b ++ d ∷ []) text) p.0 (runs_on-beginning (b ++ d ∷ []) text later p.1)

-- where a `>` stands nothing ends
runs_on-at : (b text later : List ℕ) → runs_on b (text ++ greater_than ∷ later) ≡ true → ends_comment (b ++ text) ≡ false
unfolding runs_on
runs_on-at b [] later h =
    let p = and_parts (not (ends_comment b)) (runs_on (b ++ greater_than ∷ []) later) h in
    ap ends_comment (append-nil b) ∙ not-true (ends_comment b) p.0
runs_on-at b (d ∷ text) later h =
    let p = and_parts (not ((d == greater_than) && ends_comment b)) (runs_on (b ++ d ∷ []) (text ++ greater_than ∷ later)) h in
    ap ends_comment (sym (append_assoc b (d ∷ []) text)) ∙ runs_on-at (b ++ d ∷ []) text later p.1

-- ---- what has no end is a content

pub begins-parts : (word text : List ℕ) → begins_with word text ≡ true → text ≡ word ++ drop (length word) text
begins-parts word text h =
    sym (take-append-drop (length word) text) ∙ ap (λ l. l ++ drop (length word) text) (sym (same_text word (take (length word) text) (sym h)))

record Within (word text : List ℕ) : Type 0 where
  front : List ℕ
  later : List ℕ
  parts : text ≡ front ++ (word ++ later)

occurs-parts : (word text : List ℕ) → occurs word text ≡ true → Within word text
unfolding occurs
occurs-parts word [] h = absurd (false≢true h)
occurs-parts word (c ∷ text) h =
    elim (or_cases (begins_with word (c ∷ text)) (occurs word text) h) [
      | inl g ↦ record { front = []; later = drop (length word) (c ∷ text); parts = begins-parts word (c ∷ text) g }
      | inr g ↦ let w : Within word text = occurs-parts word text g in record { front = c ∷ w.front; later = w.later; parts = ap (λ l. c ∷ l) w.parts }
    ]

ends-dashes : (front : List ℕ) → ends_comment (front ++ codes "--") ≡ true
unfolding ends_comment
ends-dashes front = rw (ends_in-append front (codes "--")) (or-third (nat_eq (length (front ++ codes "--")) 0) (is_lone_dash (front ++ codes "--")) (ends_in (front ++ codes "--") (codes "--!")))
  where
    or-third : (a b d : Bool) → (a || b || true || d) ≡ true
    or-third true b d = refl
    or-third false true d = refl
    or-third false false d = refl

ends-bang : (front : List ℕ) → ends_comment (front ++ codes "--!") ≡ true
unfolding ends_comment
ends-bang front = rw (ends_in-append front (codes "--!")) (or-fourth (nat_eq (length (front ++ codes "--!")) 0) (is_lone_dash (front ++ codes "--!")) (ends_in (front ++ codes "--!") (codes "--")))
  where
    or-fourth : (a b d : Bool) → (a || b || d || true) ≡ true
    or-fourth true b d = refl
    or-fourth false true d = refl
    or-fourth false false true = refl
    or-fourth false false false = refl

-- an end that occurs would end the comment
no-end : (word content : List ℕ) → ((front : List ℕ) → ends_comment (front ++ word) ≡ true) → runs_on [] content ≡ true → occurs (word ++ greater_than ∷ []) content ≡ false
no-end word content ends h =
    false_from_ne_true (occurs (word ++ greater_than ∷ []) content) (λ e.
    let w : Within (word ++ greater_than ∷ []) content = occurs-parts (word ++ greater_than ∷ []) content e in
    let parts : content ≡ (w.front ++ word) ++ greater_than ∷ w.later =
    w.parts ∙ ap (λ l. w.front ++ l) (append_assoc word (greater_than ∷ []) w.later) ∙ sym (append_assoc w.front word (greater_than ∷ w.later)) in
    false≢true (sym (runs_on-at [] (w.front ++ word) w.later (subst (λ l. runs_on [] l ≡ true) parts h)) ∙ ends w.front))

no-beginning : (word content : List ℕ) → ends_comment word ≡ true → runs_on [] content ≡ true → begins_with (word ++ greater_than ∷ []) content ≡ false
no-beginning word content ends h =
    false_from_ne_true (begins_with (word ++ greater_than ∷ []) content) (λ e.
    let later : List ℕ = drop (length (word ++ greater_than ∷ [])) content in
    let parts : content ≡ word ++ greater_than ∷ later = begins-parts (word ++ greater_than ∷ []) content e ∙ append_assoc word (greater_than ∷ []) later in
    false≢true (sym (runs_on-at [] word later (subst (λ l. runs_on [] l ≡ true) parts h)) ∙ ends))

pub content-of : (content : List ℕ) → runs_on [] content ≡ true → is_content content ≡ true
unfolding is_content ends_comment
content-of content h =
    rw (no-beginning [] content refl h, no-beginning (codes "-") content refl h, no-end (codes "--") content ends-dashes h, no-end (codes "--!") content ends-bang h) refl

-- ---- where a comment ends

pub record Ended (before : List ℕ) : Type 0 where
  pub content : List ℕ
  pub ending : Ending
  pub parts : before ≡ content ++ before_greater_than ending
  pub is_end : can_end_with content ending ≡ true

-- where a comment that goes on ends in the word of an end, it is a content and that end
ended-by : (before word : List ℕ) (ending : Ending) → before_greater_than ending ≡ word → ((content : List ℕ) → is_content content ≡ true → can_end_with content ending ≡ true)
    → runs_on [] before ≡ true → ends_in before word ≡ true → Ended before
ended-by before word ending e can h ends =
    let content : List ℕ = without_last (length word) before in
    let parts : before ≡ content ++ word = ends_in-front before word ends in
    record {
      content = content;
      ending = ending;
      parts = parts ∙ ap (λ l. content ++ l) (sym e);
      is_end = can content (content-of content (runs_on-beginning [] content word (subst (λ l. runs_on [] l ≡ true) parts h)));
    }

-- if a `>` ends a comment, the text before it is a content and an end
pub ended : (before : List ℕ) → runs_on [] before ≡ true → ends_comment before ≡ true → Ended before
unfolding ends_comment
ended before h ends =
    let start : Bool = nat_eq (length before) 0 in
    let lone : Bool = is_lone_dash before in
    elim (or_cases (start || lone || ends_in before (codes "--")) (ends_in before (codes "--!")) ends) [
      | inl e ↦ elim (or_cases (start || lone) (ends_in before (codes "--")) e) [
        | inl f ↦ elim (or_cases start lone f) [
          | inl g ↦ record { content = []; ending = AtOnce; parts = nil_from_length before (eqb-true (length before) 0 g); is_end = refl }
          | inr g ↦ record { content = []; ending = AfterDash; parts = same_text before (codes "-") (sym g); is_end = refl }
        ]
        | inr f ↦ ended-by before (codes "--") Dashes refl (λ content c. c) h f
      ]
      | inr e ↦ ended-by before (codes "--!") Bang refl (λ content c. c) h e
    ]

-- a text after `<!--`
pub data Afterwards (text : List ℕ) : Type 0 where
  Ends : (content : List ℕ) (ending : Ending) (later : List ℕ) → can_end_with content ending ≡ true
      → text ≡ (content ++ before_greater_than ending) ++ greater_than ∷ later → Afterwards text
  Open : is_content text ≡ true → Afterwards text

after-at : (before : List ℕ) (c : ℕ) (text : List ℕ) → runs_on [] before ≡ true → (runs_on [] (before ++ c ∷ []) ≡ true → Afterwards ((before ++ c ∷ []) ++ text))
    → (t : Bool) → ((c == greater_than) && ends_comment before) ≡ t → Afterwards (before ++ c ∷ text)
after-at before c text h further true e =
    let p = and_parts (c == greater_than) (ends_comment before) e in
    let w : Ended before = ended before h p.1 in
    Ends w.content w.ending text w.is_end (ap (λ d. before ++ d ∷ text) (eqb-true c greater_than p.0) ∙ ap (λ l. l ++ greater_than ∷ text) w.parts)
after-at before c text h further false e = subst Afterwards (append_assoc before (c ∷ []) text) (further (runs_on-push [] before c h e))

after-from : (before text : List ℕ) → runs_on [] before ≡ true → Afterwards (before ++ text)
after-from before [] h = Open (ap is_content (append-nil before) ∙ content-of before h)
after-from before (c ∷ text) h = after-at before c text h (λ g. after-from (before ++ c ∷ []) text g) ((c == greater_than) && ends_comment before) refl

pub afterwards : (text : List ℕ) → Afterwards text
unfolding runs_on
afterwards text = after-from [] text refl
