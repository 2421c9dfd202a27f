-- What several reads or writes did to known bytes, one after another.
use Rattle.std.proofs.Common.{◌≡◌, ℕ, ◌-◌, ◌<◌, List, [], ◌++◌, Option, None, Some, length, take, drop, refl, ap, subst, ◌∙◌, arith, append_assoc, append-nil, length-append, take-append-drop}
use Rattle.std.proofs.lemmas.List.{take_at, take_rest}
use Rattle.std.specs.Io.{StartsWith, appended_bytes}
use Rattle.std.specs.Io.KnownBytes.{Appends, Consumes, Keeps}
use Rattle.devices.specs.Device.{ConsumesBeginning, AppendsBeginning}

-- a first read consumed bs, and a second one cs
pub Consumes-append : (before between after : Option (List ℕ)) (bs cs : List ℕ) → Consumes before between bs → Consumes between after cs → Consumes before after (bs ++ cs)
Consumes-append None between after bs cs first second = tt
Consumes-append (Some xs) None after bs cs first second = absurd first
Consumes-append (Some xs) (Some ys) None bs cs first second = absurd second
Consumes-append (Some xs) (Some ys) (Some zs) bs cs first second = cc (append_assoc bs cs zs)

-- reads consumed `old`, and one more what `new` has past it
pub Consumes-grown : (before between after : Option (List ℕ)) (old new : List ℕ) → StartsWith new old → Consumes before between old → Consumes between after (appended_bytes old new)
    → Consumes before after new
Consumes-grown before between after old new starts first second =
    let whole : old ++ appended_bytes old new ≡ new = cc (take-append-drop (length old) new) in
    subst (Consumes before after) whole (Consumes-append before between after old _ first second)

pub ConsumesBeginning-after : (before between after : Option (List ℕ)) (bs : List ℕ) → Consumes before between bs → ConsumesBeginning between after → ConsumesBeginning before after
ConsumesBeginning-after before between after bs first (cs, second) = (bs ++ cs, Consumes-append before between after bs cs first second)

-- a first write appended bs, and a second one cs
pub Appends-append : (before between after : Option (List ℕ)) (bs cs : List ℕ) → Appends before between bs → Appends between after cs → Appends before after (bs ++ cs)
Appends-append None between after bs cs first second = tt
Appends-append (Some xs) None after bs cs first second = absurd first
Appends-append (Some xs) (Some ys) None bs cs first second = absurd second
Appends-append (Some xs) (Some ys) (Some zs) bs cs first second = cc (append_assoc xs bs cs)

pub Appends-kept : (before after : Option (List ℕ)) → Keeps before after → Appends before after []
Appends-kept None after keeps = tt
Appends-kept (Some xs) None keeps = absurd keeps
Appends-kept (Some xs) (Some ys) keeps = cc (append-nil xs)

-- a write took n bytes of the rest, which are then after `done`
pub taken_more : (all done rest : List ℕ) (n : ℕ) → all ≡ done ++ rest → all ≡ (done ++ take n rest) ++ take (length rest - n) (drop n rest)
taken_more all done rest n split = cc (take_rest rest n, take-append-drop n rest, append_assoc done (take n rest) (drop n rest))

-- a write of the rest took nothing
pub AppendsBeginning-stopped : (before between after : Option (List ℕ)) (all done rest : List ℕ) → all ≡ done ++ rest → 0 < length rest → Appends before between done
    → Appends between after [] → AppendsBeginning before after all
AppendsBeginning-stopped before between after all done rest split more taken nothing =
    let front : take (length done) all ≡ done = ap (take (length done)) split ∙ take_at done rest (length done) refl in
    let short : length done < length all = omega (arith, length-append done rest, ap length split) in
    let same : done ++ [] ≡ take (length done) all = cc (append-nil done) in
    (length done, short, subst (Appends before after) same (Appends-append before between after done [] taken nothing))
