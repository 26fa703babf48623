-- What an entry makes of the indexes together.

use Rattle.std.proofs.Common.{◌≡◌, ◌<◌, ◌^◌, ℕ, ◌-◌, true, List, [], ◌∷◌, ◌++◌, Option, Some, None, sym, length, arith, true≢false}
use Rattle.std.specs.Prelude.{Result, Ok, Err, IsOk, OnOk}
use Rattle.std.specs.Option.{option_map_or}
use Rattle.std.proofs.lemmas.Bool.{lt-ltb}
use Rattle.std.proofs.lemmas.List.{length_push}
use Rattle.std.proofs.lemmas.List.Sums.{sum_by-append}
use Rattle.job_calls.specs.declared.entry.Entry.{Entry}
use Rattle.job_calls.specs.Runs.{Opening}
use Rattle.job_calls.specs.Fitting.{below_lanes}
use Rattle.job_calls.specs.Weights.{call_weight, weight}

-- what holds where it was done
pub ok_of : {T E P : Type 0} (r : Result T E) → IsOk r → OnOk r P → P
ok_of (Ok x) is p = p
ok_of (Err e) is p = absurd (true≢false (sym is))

-- the journal was short
pub short : (journal : List Entry) (e : Entry) → length (journal ++ e ∷ []) < 1100000 → length journal < 2 ^ 31
short journal e few = let l = length_push journal e in omega (arith, few, l)

-- the bytes that may still be weighed
pub less_on : (journal : List Entry) (e : Entry) (left : ℕ) → left ≡ 268435457 - weight journal
    → left - call_weight e.call ≡ 268435457 - weight (journal ++ e ∷ [])
less_on journal e left is =
    let more = sum_by-append (λ (x : Entry). call_weight x.call) journal (e ∷ []) in omega (arith, is, more)

-- a lane below the number of lanes
pub is_below : (lane : ℕ) (o : Option Opening) → lane < option_map_or (λ (o : Opening). o.lanes) o 0 → below_lanes lane o ≡ true
is_below lane None less = absurd (omega (arith, less))
is_below lane (Some o) less = lt-ltb lane o.lanes less
