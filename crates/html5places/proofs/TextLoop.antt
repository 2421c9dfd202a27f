-- A text that is read, character after character.
use Rattle.std.proofs.Common.{◌≡◌, ℕ, ◌+◌, ◌-◌, ◌<◌, ◌≤◌, true, false, List, [], ◌∷◌, ◌++◌, drop, length, length-drop, take, refl, ap, sym, ◌∙◌, subst, arith}
use Rattle.std.specs.Prelude.{encode_utf8}
use Rattle.std.specs.Char.{len_utf8}
use Rattle.std.specs.Str.{IsCharBoundary, IsUtf8, chars}
use Rattle.std.proofs.lemmas.List.{append-nil, append_assoc, append_cancel_right, length-append, take-append-drop}
use Rattle.std.proofs.lemmas.Str.{IsCharBoundary-from_drop, IsUtf8-take, chars-append, drop_past_char, length-encode}
use Rattle.html5grammar.proofs.Split.{cons_first, cons_rest, nil≢cons}
use Rattle.html5places.specs.Marks.{Placed}
use Rattle.html5places.specs.Placed.{has_token, placed_by}
use Rattle.html5places.specs.Readers.{EndsInToken, HasNoTokenBefore, Reader, Reads, StopsWithin, TellsToken, reading_of}
use Rattle.html5places.proofs.Pieces.{has_no_token, has_token-append, placed_by-nil}
use Rattle.html5places.proofs.HandingOn.{place-after}
use Rattle.html5places.proofs.ManyCharacters.{reads-append, reads-none, stops-append}

-- of a text a prefix was read, and these bytes are left
pub record HasRead {S : Type 0} (step : S → Placed → S) (t0 t : Reader) (h0 h : S) (text rest : List ℕ) : Type 0 where
  pub front : List ℕ
  pub parts : chars text ≡ front ++ chars rest
  pub reads : Reads step (reading_of t0) (reading_of t) h0 h front
  pub rules : t.rules ≡ t0.rules
  pub nothing_kept : t.sink.handler ≡ []
  pub place : t.sink.marks.to + length rest ≡ t0.sink.marks.to + length text

module _ {S : Type 0} (step : S → Placed → S) where
  pub read-none : (t : Reader) (h : S) (text rest : List ℕ) → t.sink.handler ≡ [] → rest ≡ text → HasRead step t t h h text rest
  read-none t h text rest nothing_kept all = record {
    front = [];
    parts = ap chars (sym all);
    reads = reads-none step (reading_of t) h;
    rules = refl;
    nothing_kept = nothing_kept;
    place = ap (λ l. t.sink.marks.to + length l) all;
  }

  pub read-more : (t0 t u : Reader) (h0 h i : S) (text rest later : List ℕ) (c : ℕ) → HasRead step t0 t h0 h text rest
      → chars rest ≡ c ∷ chars later → rest ≡ encode_utf8 c ++ later → Reads step (reading_of t) (reading_of u) h i (c ∷ [])
      → u.rules ≡ t.rules → u.sink.handler ≡ []
      → HasRead step t0 u h0 i text later
  read-more t0 t u h0 h i text rest later c has first bytes one rules nothing_kept = record {
    front = has.front ++ c ∷ [];
    parts = has.parts ∙ ap (λ l. has.front ++ l) first ∙ sym (append_assoc has.front (c ∷ []) (chars later));
    reads = reads-append step (reading_of t0) (reading_of t) (reading_of u) h0 h i has.front (c ∷ []) has.rules has.reads one;
    rules = rules ∙ has.rules;
    nothing_kept = nothing_kept;
    place =
        (let to = place-after step (reading_of t) (reading_of u) h i c one in
        let all = has.place in
        let len = ap length bytes ∙ length-append (encode_utf8 c) later in
        omega (arith, to, all, len));
  }

  pub read-all : (t0 t : Reader) (h0 h : S) (text rest : List ℕ) → HasRead step t0 t h0 h text rest → chars rest ≡ []
      → Reads step (reading_of t0) (reading_of t) h0 h (chars text)
  read-all t0 t h0 h text rest has none =
      subst (Reads step (reading_of t0) (reading_of t) h0 h) (sym (has.parts ∙ ap (λ l. has.front ++ l) none ∙ append-nil has.front)) has.reads

  pub read-stopped : (t0 t : Reader) (h0 h i : S) (text rest later : List ℕ) (c : ℕ) → HasRead step t0 t h0 h text rest → chars rest ≡ c ∷ chars later
      → StopsWithin step (reading_of t) h i (c ∷ []) → StopsWithin step (reading_of t0) h0 i (chars text)
  read-stopped t0 t h0 h i text rest later c has first stops =
      subst (StopsWithin step (reading_of t0) h0 i) (sym (has.parts ∙ ap (λ l. has.front ++ l) first))
      (stops-append step (reading_of t0) (reading_of t) h0 h i has.front (c ∷ []) (chars later) has.rules has.reads stops)

-- ---- up to a token

-- of a text this many bytes were read, and none of their characters told a token
pub record HasReadQuietly {S : Type 0} (step : S → Placed → S) (t0 t : Reader) (h0 h : S) (text rest : List ℕ) (count : ℕ) : Type 0 where
  pub has : HasRead step t0 t h0 h text rest
  pub within : count ≤ length text
  pub left : drop count text ≡ rest
  pub quiet : TellsToken (reading_of t0) has.front false

-- this many bytes lie within the text
count-within : (text rest later : List ℕ) (count c : ℕ) → count ≤ length text → drop count text ≡ rest → rest ≡ encode_utf8 c ++ later
    → count + len_utf8 c ≤ length text
count-within text rest later count c within left bytes =
    let len : length text - count ≡ length (encode_utf8 c) + length later =
    sym (length-drop count text) ∙ ap length (left ∙ bytes) ∙ length-append (encode_utf8 c) later in
    let one = length-encode c in
    omega (arith, within, len, one)

-- the first bytes of a text are those characters that were read
front-taken : (text rest front : List ℕ) (count : ℕ) → IsUtf8 text → IsUtf8 rest → count ≤ length text → drop count text ≡ rest
    → chars text ≡ front ++ chars rest → chars (take count text) ≡ front
front-taken text rest front count utf8 utf8_rest within left parts =
    let boundary : IsCharBoundary text count = IsCharBoundary-from_drop text count within (subst IsUtf8 (sym left) utf8_rest) in
    let split : chars text ≡ chars (take count text) ++ chars rest =
    ap chars (sym (take-append-drop count text))
    ∙ chars-append (take count text) (drop count text) (IsUtf8-take text count utf8 boundary)
    ∙ ap (λ l. chars (take count text) ++ chars l) left in
    append_cancel_right (chars (take count text)) front (chars rest) (sym split ∙ parts)

-- the text before the last of some characters
front-same : (a b : List ℕ) (x y : ℕ) → a ++ x ∷ [] ≡ b ++ y ∷ [] → a ≡ b
front-same [] [] x y e = refl
front-same [] (d ∷ []) x y e = absurd (nil≢cons (cons_rest e))
front-same [] (d ∷ f ∷ b) x y e = absurd (nil≢cons (cons_rest e))
front-same (d ∷ []) [] x y e = absurd (nil≢cons (sym (cons_rest e)))
front-same (d ∷ f ∷ a) [] x y e = absurd (nil≢cons (sym (cons_rest e)))
front-same (d ∷ a) (f ∷ b) x y e = ap (λ z. z ∷ a) (cons_first e) ∙ ap (λ l. f ∷ l) (front-same a b x y (cons_rest e))

module _ {S : Type 0} (step : S → Placed → S) where
  pub quietly-none : (t : Reader) (h : S) (text rest : List ℕ) → t.sink.handler ≡ [] → rest ≡ text → HasReadQuietly step t t h h text rest 0
  unfolding read-none
  quietly-none t h text rest nothing_kept all = record {
    has = read-none step t h text rest nothing_kept all;
    within = omega arith;
    left = sym all;
    quiet = λ B before there. sym (ap has_token (placed_by-nil t.rules B before));
  }

  pub quietly-more : (t0 t u : Reader) (h0 h i : S) (text rest later : List ℕ) (count c : ℕ) → HasReadQuietly step t0 t h0 h text rest count
      → chars rest ≡ c ∷ chars later → rest ≡ encode_utf8 c ++ later → Reads step (reading_of t) (reading_of u) h i (c ∷ [])
      → u.rules ≡ t.rules → u.sink.handler ≡ [] → TellsToken (reading_of t) (c ∷ []) false
      → HasReadQuietly step t0 u h0 i text later (count + len_utf8 c)
  unfolding read-more
  quietly-more t0 t u h0 h i text rest later count c was first bytes one rules nothing_kept quiet = record {
    has = read-more step t0 t u h0 h i text rest later c was.has first bytes one rules nothing_kept;
    within = count-within text rest later count c was.within was.left bytes;
    left = drop_past_char text later count c (was.left ∙ bytes);
    quiet = λ B before there.
        let here = was.has.reads B before there in
        sym (has_token-append t0.rules B before was.has.front (c ∷ []) (sym (was.quiet B before there))
        (ap (λ r. has_token (placed_by r B (before ++ was.has.front) (c ∷ []))) (sym was.has.rules) ∙ sym (quiet B (before ++ was.has.front) here.stands)));
  }

  -- the character that tells a token was read
  pub record HasReadToToken (t0 u : Reader) (h0 i : S) (text : List ℕ) (count : ℕ) : Type 0 where
    pub reads : Reads step (reading_of t0) (reading_of u) h0 i (chars (take count text))
    pub within : count ≤ length text
    pub boundary : IsCharBoundary text count
    pub no_token_before : HasNoTokenBefore (reading_of t0) (chars (take count text))
    pub token_last : count < length text → EndsInToken (reading_of t0) (chars (take count text))

  pub to_token : (t0 t u : Reader) (h0 h i : S) (text rest later : List ℕ) (count c : ℕ) → IsUtf8 text → IsUtf8 later
      → HasReadQuietly step t0 t h0 h text rest count
      → chars rest ≡ c ∷ chars later → rest ≡ encode_utf8 c ++ later → Reads step (reading_of t) (reading_of u) h i (c ∷ [])
      → u.rules ≡ t.rules → u.sink.handler ≡ [] → TellsToken (reading_of t) (c ∷ []) true
      → HasReadToToken t0 u h0 i text (count + len_utf8 c)
  unfolding read-more
  to_token t0 t u h0 h i text rest later count c utf8 utf8_later was first bytes one rules nothing_kept tells =
      let has = read-more step t0 t u h0 h i text rest later c was.has first bytes one rules nothing_kept in
      let within : count + len_utf8 c ≤ length text = count-within text rest later count c was.within was.left bytes in
      let left : drop (count + len_utf8 c) text ≡ later = drop_past_char text later count c (was.left ∙ bytes) in
      let part : chars (take (count + len_utf8 c) text) ≡ was.has.front ++ c ∷ [] =
      front-taken text later (was.has.front ++ c ∷ []) (count + len_utf8 c) utf8 utf8_later within left has.parts in
      record {
        reads = subst (Reads step (reading_of t0) (reading_of u) h0 i) (sym part) has.reads;
        within = within;
        boundary = IsCharBoundary-from_drop text (count + len_utf8 c) within (subst IsUtf8 (sym left) utf8_later);
        no_token_before = λ B before there front last parts.
            ap (λ l. has_token (placed_by t0.rules B before l)) (sym (front-same was.has.front front c last (sym part ∙ parts))) ∙ sym (was.quiet B before there);
        token_last = λ some B before there.
            let here = was.has.reads B before there in
            record {
              front = was.has.front;
              last = c;
              parts = part;
              token =
                  ap (λ r. has_token (placed_by r B (before ++ was.has.front) (c ∷ []))) (sym was.has.rules)
                  ∙ sym (tells B (before ++ was.has.front) here.stands);
            };
      }

  -- no character told one
  pub to_end : (t0 t : Reader) (h0 h : S) (text rest : List ℕ) (count : ℕ) → IsUtf8 text → IsUtf8 rest → HasReadQuietly step t0 t h0 h text rest count
      → rest ≡ [] → HasReadToToken t0 t h0 h text count
  to_end t0 t h0 h text rest count utf8 utf8_rest was none =
      let part : chars (take count text) ≡ was.has.front = front-taken text rest was.has.front count utf8 utf8_rest was.within was.left was.has.parts in
      record {
        reads = subst (Reads step (reading_of t0) (reading_of t) h0 h) (sym part) was.has.reads;
        within = was.within;
        boundary = IsCharBoundary-from_drop text count was.within (subst IsUtf8 (sym was.left) utf8_rest);
        no_token_before = λ B before there front last parts.
            has_no_token t0.rules B before front (last ∷ [])
            (ap (λ l. has_token (placed_by t0.rules B before l)) (sym parts ∙ part) ∙ sym (was.quiet B before there));
        token_last = λ some.
            let gone : length text - count ≡ 0 = sym (length-drop count text) ∙ ap length (was.left ∙ none) in
            let never : ⊥ = omega (arith, gone, some) in
            absurd never;
      }
