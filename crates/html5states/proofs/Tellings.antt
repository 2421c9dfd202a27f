-- What telling leaves: one token, and one call after another.
use Rattle.std.proofs.Common.{◌≡◌, ◌≢◌, ℕ, List, [], ◌∷◌, ◌++◌, refl, ap, sym, ◌∙◌, subst, inl, inr, Result, Ok, Err, string_bytes}
use Rattle.std.specs.Prelude.{◌+◌, map, encode_utf8, encode_utf8_all, Bool, true}
use Rattle.std.specs.List.{concat}
use Rattle.std.specs.Str.{chars, IsUtf8}
use Rattle.std.proofs.Common.{add-zero}
use Rattle.std.proofs.lemmas.List.{append-nil, append_assoc, map-append}
use Rattle.std.proofs.lemmas.Result.{err_from_is_err_and}
use Rattle.std.proofs.lemmas.Str.{encodes-chars, IsUtf8-string_bytes}
use Rattle.std.specs.Result.{IsErrAnd}
use Rattle.html5ever_interface.proofs.Steppings.{stepped-append}
use Rattle.html5ever_interface.specs.Sink.{Means, Message, stepped, on_line}
use Rattle.html5partial.specs.CurrentTag.{last_name_of}
use Rattle.html5partial.specs.Steps.{Next, tokens_of, afterwards, Ends}
use Rattle.html5states.specs.Telling.{IsRefusal, tokens_in, IsToldAs, IsKept, Stops, Tells, Emits, Reads, faults_of}
use Rattle.html5reading.specs.ErrorText.{where_true}
use Rattle.html5reading.specs.Reading.{Here}
use Rattle.html5reading.specs.Start.{Open}
use Rattle.html5reading.specs.Machine.{told_first}
use Rattle.html5partial.specs.declared.opened.Opened.{Opened}
use Rattle.html5partial.specs.declared.opened.Progress.{Progress}
use Rattle.html5states.specs.declared.teller.Teller.{Teller}
use Rattle.html5partial.specs.declared.error.TokenizerError.{TokenizerError}
use Rattle.html5partial.specs.declared.error.TokenizerError.TheVariants.{Memory, Sink, Failed}
use Rattle.html5ever_interface.specs.declared.interface.token.Token.{Token}
use Rattle.html5ever_interface.specs.declared.interface.token.Token.TheVariants.{DoctypeToken, TagToken, CommentToken, ProcessingInstructionToken, CharacterTokens, NullCharacterToken, EOFToken, ParseError}
use Rattle.html5ever_interface.specs.Token.{Told, told_by}
use Rattle.html5ever_interface.specs.Token.Told.{Text}

-- the texts of characters, joined
pub concat-encoded : (cs : List ℕ) → concat (map encode_utf8 cs) ≡ encode_utf8_all cs
concat-encoded [] = refl
concat-encoded (c ∷ cs) = ap (λ l. encode_utf8 c ++ l) (concat-encoded cs)

texts-encoded : (cs : List ℕ) (line : ℕ)
    → map (λ (m : Message). m.token) (on_line line (map (λ (c : ℕ). Text (encode_utf8 c)) cs)) ≡ map (λ (text : List ℕ). Text text) (map encode_utf8 cs)
texts-encoded [] line = refl
texts-encoded (c ∷ cs) line = ap (λ l. Text (encode_utf8 c) ∷ l) (texts-encoded cs line)

-- the last of some messages on a line
last-on_line : (line : ℕ) (tokens : List Told) → tokens ≢ []
    → (front : List Message) × ((last : Message) × ((on_line line tokens ≡ front ++ last ∷ []) × (line ≡ last.line)))
last-on_line line [] filled = absurd (filled refl)
last-on_line line (token ∷ []) filled = ([], (record { token = token; line = line }, (refl, refl)))
last-on_line line (token ∷ next ∷ tokens) filled =
    let more = last-on_line line (next ∷ tokens) (λ e. cc) in
    (record { token = token; line = line } ∷ more.0, (more.1.0, (ap (λ l. record { token = token; line = line } ∷ l) more.1.1.0, more.1.1.1)))

texts≢nil : (cs : List ℕ) → cs ≢ [] → map (λ (c : ℕ). Text (encode_utf8 c)) cs ≢ []
texts≢nil [] filled = λ e. filled refl
texts≢nil (c ∷ cs) filled = λ e. cc

-- a text that isn't empty has characters
pub filled-text : (bytes : List ℕ) → IsUtf8 bytes → bytes ≢ [] → tokens_in (Text bytes) ≢ []
filled-text bytes utf8 filled = texts≢nil (chars bytes) (λ none. filled (sym (encodes-chars bytes utf8) ∙ ap encode_utf8_all none))

-- a token that is sent says what the grammar has for it
pub says-token : {Z : Type 0} → (token : Token Z) (line : ℕ) → tokens_in (told_by token) ≢ []
    → IsToldAs (told_by token) line (on_line line (tokens_in (told_by token)))
says-token (DoctypeToken doctype) line filled = inl refl
says-token (TagToken tag) line filled = inl refl
says-token (CommentToken text) line filled = inl refl
says-token (ProcessingInstructionToken text) line filled = inl refl
says-token (CharacterTokens text) line filled =
    let last = last-on_line line (tokens_in (Text (string_bytes text))) filled in
    inr (record {
      texts = map encode_utf8 (chars (string_bytes text));
      says = texts-encoded (chars (string_bytes text)) line;
      joined = ap Text (sym (concat-encoded (chars (string_bytes text)) ∙ encodes-chars (string_bytes text) (IsUtf8-string_bytes text)));
      front = last.0;
      last = last.1.0;
      ends = last.1.1.0;
      on_last_line = last.1.1.1;
    })
says-token NullCharacterToken line filled = inl refl
says-token EOFToken line filled = inl refl
says-token (ParseError message) line filled = inl refl

-- a text steps as the texts do of which it is made, whatever their lines
module _ {S : Type 0} (step faulted : S → Told → ℕ → S) where
  stepped-texts : ((s : S) (a b : List ℕ) (line : ℕ) → step (step s (Text a) line) (Text b) line ≡ step s (Text (a ++ b)) line)
      → ((s : S) (line : ℕ) → step s (Text []) line ≡ s)
      → ((s : S) (a : List ℕ) (line other : ℕ) → step s (Text a) line ≡ step s (Text a) other)
      → (s : S) (line : ℕ) (M : List Message) (texts : List (List ℕ)) → map (λ (m : Message). m.token) M ≡ map (λ (text : List ℕ). Text text) texts
      → step s (Text (concat texts)) line ≡ stepped step s M
  unfolding stepped
  stepped-texts joins empty any_line s line [] [] same = empty s line
  stepped-texts joins empty any_line s line [] (text ∷ texts) same = absurd cc
  stepped-texts joins empty any_line s line (m ∷ M) [] same = absurd cc
  stepped-texts joins empty any_line s line (m ∷ M) (text ∷ texts) same =
      let first : m.token ≡ Text text = cc in
      let more : map (λ (n : Message). n.token) M ≡ map (λ (later : List ℕ). Text later) texts = cc in
      sym (joins s text (concat texts) line)
      ∙ stepped-texts joins empty any_line (step s (Text text) line) line M texts more
      ∙ ap (λ u. stepped step u M) (any_line s text line m.line ∙ ap (λ token. step s token m.line) (sym first))

  -- a token that was sent, whatever messages it says, and one at which the sink faulted
  pub token-tells : ((s : S) (a b : List ℕ) (line : ℕ) → step (step s (Text a) line) (Text b) line ≡ step s (Text (a ++ b)) line)
      → ((s : S) (line : ℕ) → step s (Text []) line ≡ s)
      → ((s : S) (a : List ℕ) (line other : ℕ) → step s (Text a) line ≡ step s (Text a) other)
      → (s t : S) (token : Told) (line : ℕ) (M : List Message) → IsToldAs token line M → t ≡ step s token line → t ≡ stepped step s M
  unfolding stepped
  token-tells joins empty any_line s t token line M (inl one) e = e ∙ ap (stepped step s) (sym one)
  token-tells joins empty any_line s t token line M (inr text) e =
      e ∙ ap (λ told. step s told line) text.joined ∙ stepped-texts joins empty any_line s line M text.texts text.says

  -- a fault at a token stops within the messages that the token says
  pub token-faults : (s t : S) (token : Told) (line : ℕ) (M : List Message) → IsToldAs token line M → t ≡ faulted s token line → Stops step faulted Sink s M t
  unfolding stepped
  token-faults s t token line M says e = record {
    before = [];
    token = token;
    line = line;
    next = M;
    rest = [];
    parts = sym (append-nil M);
    says = says;
    state = e;
  }

  -- a call after messages that were sent
  pub stops_after : (e : TokenizerError) (s t u : S) (M N : List Message) → t ≡ stepped step s M
      → Stops step faulted e t N u → Stops step faulted e s (M ++ N) u
  stops_after Memory s t u M N told stop = record {
    before = M ++ stop.before;
    rest = stop.rest;
    parts = rw (append_assoc M stop.before stop.rest, stop.parts) refl;
    state = stop.state ∙ rw (told, stepped-append step s M stop.before) refl;
  }
  stops_after Sink s t u M N told stop = record {
    before = M ++ stop.before;
    token = stop.token;
    line = stop.line;
    next = stop.next;
    rest = stop.rest;
    parts = rw (append_assoc M stop.before (stop.next ++ stop.rest), stop.parts) refl;
    says = stop.says;
    state = stop.state ∙ rw (told, stepped-append step s M stop.before) refl;
  }
  stops_after Failed s t u M N told stop = stop

  pub tells_after : {T : Type 0} → (r : Result T TokenizerError) (s t u : S) (M N : List Message) → t ≡ stepped step s M
      → Tells step faulted r t N u → Tells step faulted r s (M ++ N) u
  tells_after (Ok x) s t u M N told tells = tells ∙ rw (told, stepped-append step s M N) refl
  tells_after (Err e) s t u M N told tells = stops_after e s t u M N told tells

  -- a refusal before further messages
  pub stops_before : (e : TokenizerError) (s t : S) (M N : List Message) → IsRefusal e
      → Stops step faulted e s M t → Stops step faulted e s (M ++ N) t
  stops_before Memory s t M N refusal stop = record {
    before = stop.before;
    rest = stop.rest ++ N;
    parts = rw (stop.parts, append_assoc stop.before stop.rest N) refl;
    state = stop.state;
  }
  stops_before Sink s t M N refusal stop = record {
    before = stop.before;
    token = stop.token;
    line = stop.line;
    next = stop.next;
    rest = stop.rest ++ N;
    parts = rw (stop.parts, append_assoc stop.before (stop.next ++ stop.rest) N, append_assoc stop.next stop.rest N) refl;
    says = stop.says;
    state = stop.state;
  }
  stops_before Failed s t M N refusal stop = stop

  -- a growth that was refused before anything was sent
  pub Memory-at_once : (s : S) (M : List Message) → Stops step faulted Memory s M s
  unfolding stepped
  Memory-at_once s M = record { before = []; rest = M; parts = refl; state = refl }

  -- the exit of a `?`: out of memory before anything was sent, and a stop of the call before
  pub tells_from_memory : {T : Type 0} → (r : Result T TokenizerError) (s : S) (M : List Message)
      → IsErrAnd r (λ e. e ≡ Memory) → Tells step faulted r s M s
  tells_from_memory r s M h = let p = err_from_is_err_and r h in rw (p.1, p.2) (Memory-at_once s M)

  pub tells_from_stop : {T : Type 0} → (r : Result T TokenizerError) (e : TokenizerError) (s t : S) (M N : List Message)
      → IsErrAnd r (λ x. x ≡ e) → IsRefusal e → Stops step faulted e s M t → Tells step faulted r s (M ++ N) t
  tells_from_stop r e s t M N h refusal stop = let p = err_from_is_err_and r h in rw (p.1, p.2) (stops_before e s t M N refusal stop)

  -- tokens on one line, sent by two calls: by both, by the first and then a stop of the first, and out of memory between

  pub told_then : {T : Type 0} → (r : Result T TokenizerError) (s t u : S) (line : ℕ) (A B : List Told) → t ≡ stepped step s (on_line line A)
      → Tells step faulted r t (on_line line B) u → Tells step faulted r s (on_line line (A ++ B)) u
  told_then r s t u line A B told tells =
      subst (λ M. Tells step faulted r s M u) (sym (map-append (λ (token : Told). record { token = token; line = line }) A B))
      (tells_after r s t u (on_line line A) (on_line line B) told tells)

  pub told_stop : {T : Type 0} → (r : Result T TokenizerError) (e : TokenizerError) (s t : S) (line : ℕ) (A B : List Told)
      → IsErrAnd r (λ x. x ≡ e) → IsRefusal e → Stops step faulted e s (on_line line A) t → Tells step faulted r s (on_line line (A ++ B)) t
  told_stop r e s t line A B h refusal stop =
      subst (λ M. Tells step faulted r s M t) (sym (map-append (λ (token : Told). record { token = token; line = line }) A B))
      (tells_from_stop r e s t (on_line line A) (on_line line B) h refusal stop)

  -- the exit of a `?` after all that is sent
  pub tells_stop : {T : Type 0} → (r : Result T TokenizerError) (e : TokenizerError) (s t : S) (M : List Message)
      → IsErrAnd r (λ x. x ≡ e) → Stops step faulted e s M t → Tells step faulted r s M t
  tells_stop r e s t M h stop = let p = err_from_is_err_and r h in rw (p.1, p.2) stop

  pub tells_memory : {T : Type 0} → (r : Result T TokenizerError) (s t : S) (M : List Message)
      → IsErrAnd r (λ x. x ≡ Memory) → t ≡ stepped step s M → Tells step faulted r s M t
  tells_memory r s t M h told =
      let p = err_from_is_err_and r h in
      rw (p.1, p.2) (record { before = M; rest = []; parts = sym (append-nil M); state = told })

  -- a step after what is sent first
  tokens-told_first : (before : List Told) (step : Here Open) → tokens_of (told_first before step) ≡ before ++ tokens_of step
  unfolding tokens_of
  tokens-told_first before (Here.Tells told later) = refl
  tokens-told_first before (Here.TellsTag told tag) = refl

  pub first_then : {T : Type 0} → (r : Result T TokenizerError) (s t u : S) (line : ℕ) (before : List Told) (all later : Here Open)
      → all ≡ told_first before later → t ≡ stepped step s (on_line line before)
      → Tells step faulted r t (on_line line (tokens_of later)) u → Tells step faulted r s (on_line line (tokens_of all)) u
  first_then r s t u line before all later same told tells =
      subst (λ tokens. Tells step faulted r s (on_line line tokens) u) (sym (ap tokens_of same ∙ tokens-told_first before later))
      (told_then r s t u line before (tokens_of later) told tells)

  pub first_stop : {T : Type 0} → (r : Result T TokenizerError) (e : TokenizerError) (s t : S) (line : ℕ) (before : List Told) (all later : Here Open)
      → all ≡ told_first before later → IsErrAnd r (λ x. x ≡ e) → IsRefusal e → Stops step faulted e s (on_line line before) t
      → Tells step faulted r s (on_line line (tokens_of all)) t
  first_stop r e s t line before all later same h refusal stop =
      subst (λ tokens. Tells step faulted r s (on_line line tokens) t) (sym (ap tokens_of same ∙ tokens-told_first before later))
      (told_stop r e s t line before (tokens_of later) h refusal stop)

after-told_first : (before : List Told) (later : Here Open) → afterwards (told_first before later) ≡ afterwards later
unfolding afterwards
after-told_first before (Here.Tells told later) = refl
after-told_first before (Here.TellsTag told tag) = refl

pub leads_first : {Z : Type 0} → (r : Result Progress TokenizerError) (at : Opened Z) (before : List Told) (all later : Here Open)
    → all ≡ told_first before later → Ends r at (afterwards later) → Ends r at (afterwards all)
leads_first r at before all later same leads =
    subst (Ends r at) (sym (ap afterwards same ∙ after-told_first before later)) leads

-- an error that there is
pub where_true-true : (holds : Bool) (error : Told) → holds ≡ true → where_true holds error ≡ error ∷ []
where_true-true holds error h = rw h refl

-- a refusal leads nowhere
refused_leads : {Z : Type 0} (r : Result Progress TokenizerError) (e : TokenizerError) (at : Opened Z) (next : Next)
    → IsErrAnd r (λ x. x ≡ e) → IsRefusal e → Ends r at next
refused_leads r Memory at next h refusal = let p = err_from_is_err_and r h in rw (p.1, p.2) tt
refused_leads r Sink at next h refusal = let p = err_from_is_err_and r h in rw (p.1, p.2) tt
refused_leads r Failed at next h refusal = absurd refusal

-- calls of a teller, one after the other: what it is stays, and a call that tells comes before one that tells or reads
kept_then : {Q Z : Type 0} {before middle after : Teller Q Z} → IsKept before middle → IsKept middle after → IsKept before after
kept_then first later = record {
  sink = later.sink ∙ first.sink;
  line = later.line ∙ first.line;
  exact_errors = later.exact_errors ∙ first.exact_errors;
}

module _ {Q S H Z : Type 0} {means : Means Q S H} {count : Q → ℕ} where
  pub emits_then : {T U : Type 0} {x : U} {r : Result T TokenizerError} {before middle after : Teller Q Z} {A B all : List Told}
      → Emits means count {T = U} (Ok x) before middle A → Emits means count r middle after B → all ≡ A ++ B
      → Emits means count r before after all
  emits_then {r = r} {before = before} {A = A} {B = B} first later same = record {
    tells = rw same (told_then means.step means.faulted r _ _ _ before.line A B first.tells (rw first.kept.line at later.tells));
    refusal = later.refusal;
    faults = later.faults ∙ ap (λ n. n + faults_of r) (first.faults ∙ add-zero _);
    kept = kept_then first.kept later.kept;
  }

  -- a call that stopped, before more that would have been sent
  pub emits_stop : {T U : Type 0} {e : TokenizerError} {before after : Teller Q Z} {A all : List Told} (r : Result T TokenizerError)
      → IsErrAnd r (λ x. x ≡ e) → Emits means count {T = U} (Err e) before after A → (B : List Told) → all ≡ A ++ B
      → Emits means count r before after all
  emits_stop {e = e} {before = before} {A = A} r h first B same =
      let p = err_from_is_err_and r h in
      record {
        tells = rw same (told_stop means.step means.faulted r e _ _ before.line A B h first.refusal first.tells);
        refusal = rw (p.1, p.2) first.refusal;
        faults = rw (p.1, p.2) first.faults;
        kept = first.kept;
      }

  -- a state that is read after what is sent first
  pub reads_then : {U : Type 0} {x : U} {r : Result Progress TokenizerError} {before middle after : Teller Q Z} {A : List Told} {all later : Here Open} {was then_at at : Opened Z}
      → Emits means count {T = U} (Ok x) before middle A → Reads means count r middle after later then_at at → all ≡ told_first A later
      → last_name_of then_at ≡ last_name_of was
      → Reads means count r before after all was at
  reads_then {r = r} {before = before} {A = A} {all = all} {later = later} {at = at} first reads same last = record {
    tells = first_then means.step means.faulted r _ _ _ before.line A all later same first.tells (rw first.kept.line at reads.tells);
    leads = leads_first r at A all later same reads.leads;
    last = reads.last ∙ last;
    faults = reads.faults ∙ ap (λ n. n + faults_of r) (first.faults ∙ add-zero _);
    kept = kept_then first.kept reads.kept;
  }

  -- a call that stopped, in a state that would have sent more
  pub reads_stop : {U : Type 0} {e : TokenizerError} {before after : Teller Q Z} {A : List Told} {all : Here Open} {was at : Opened Z} (r : Result Progress TokenizerError)
      → IsErrAnd r (λ x. x ≡ e) → Emits means count {T = U} (Err e) before after A → (later : Here Open) → all ≡ told_first A later → last_name_of at ≡ last_name_of was
      → Reads means count r before after all was at
  reads_stop {e = e} {before = before} {A = A} {all = all} {at = at} r h first later same last =
      let p = err_from_is_err_and r h in
      record {
        tells = first_stop means.step means.faulted r e _ _ before.line A all later same h first.refusal first.tells;
        leads = refused_leads r e at (afterwards all) h first.refusal;
        last = last;
        faults = rw (p.1, p.2) first.faults;
        kept = first.kept;
      }

  -- a state that is read from another that is open
  pub reads_as : {r : Result Progress TokenizerError} {before after : Teller Q Z} {all later : Here Open} {was then_at at : Opened Z}
      → Reads means count r before after later then_at at → all ≡ later → last_name_of then_at ≡ last_name_of was
      → Reads means count r before after all was at
  reads_as reads same last = record {
    tells = rw same reads.tells;
    leads = rw same reads.leads;
    last = reads.last ∙ last;
    faults = reads.faults;
    kept = reads.kept;
  }

  -- a token that the sink took, and one at which it faulted
  pub emits_token : ((s : S) (a b : List ℕ) (line : ℕ) → means.step (means.step s (Text a) line) (Text b) line ≡ means.step s (Text (a ++ b)) line)
      → ((s : S) (line : ℕ) → means.step s (Text []) line ≡ s)
      → ((s : S) (a : List ℕ) (line other : ℕ) → means.step s (Text a) line ≡ means.step s (Text a) other)
      → {before after : Teller Q Z} (token : Token Z) → tokens_in (told_by token) ≢ []
      → means.state after.sink.now ≡ means.step (means.state before.sink.now) (told_by token) before.line
      → count after.sink.now ≡ count before.sink.now → IsKept before after
      → Emits means count {T = Unit {0}} (Ok tt) before after (tokens_in (told_by token))
  emits_token joins empty any_line {before = before} token filled steps count kept = record {
    tells = token-tells means.step means.faulted joins empty any_line _ _ (told_by token) before.line _ (says-token token before.line filled) steps;
    refusal = tt;
    faults = count ∙ sym (add-zero _);
    kept = kept;
  }

  -- the same, of the token as it is handed on, where a call answers what the sink replies
  pub emits_reply : {T : Type 0} {x : T} {before after : Teller Q Z} (token : Token Z)
      → means.state after.sink.now ≡ means.step (means.state before.sink.now) (told_by token) before.line
      → count after.sink.now ≡ count before.sink.now → IsKept before after
      → Emits means count {T = T} (Ok x) before after (told_by token ∷ [])
  unfolding stepped
  emits_reply token steps count kept = record { tells = steps; refusal = tt; faults = count ∙ sym (add-zero _); kept = kept }

  pub emits_one : {before after : Teller Q Z} (token : Token Z)
      → means.state after.sink.now ≡ means.step (means.state before.sink.now) (told_by token) before.line
      → count after.sink.now ≡ count before.sink.now → IsKept before after
      → Emits means count {T = Unit {0}} (Ok tt) before after (told_by token ∷ [])
  emits_one token steps count kept = emits_reply token steps count kept

  -- a fault at the one token that a call sends
  pub emits_fault-one : {T : Type 0} {before after : Teller Q Z} (token : Told)
      → means.state after.sink.now ≡ means.faulted (means.state before.sink.now) (token) before.line
      → count after.sink.now ≡ count before.sink.now + 1 → IsKept before after
      → Emits means count {T = T} (Err Sink) before after (token ∷ [])
  unfolding stepped
  emits_fault-one {before = before} token fault count kept = record {
    tells = record {
      before = [];
      token = token;
      line = before.line;
      next = on_line before.line (token ∷ []);
      rest = [];
      parts = refl;
      says = inl refl;
      state = fault;
    };
    refusal = tt;
    faults = count;
    kept = kept;
  }

  pub emits_fault : {T : Type 0} {before after : Teller Q Z} (token : Token Z) → tokens_in (told_by token) ≢ []
      → means.state after.sink.now ≡ means.faulted (means.state before.sink.now) (told_by token) before.line
      → count after.sink.now ≡ count before.sink.now + 1 → IsKept before after
      → Emits means count {T = T} (Err Sink) before after (tokens_in (told_by token))
  emits_fault {before = before} token filled fault count kept = record {
    tells = token-faults means.step means.faulted _ _ (told_by token) before.line _ (says-token token before.line filled) fault;
    refusal = tt;
    faults = count;
    kept = kept;
  }
