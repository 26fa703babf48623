use Rattle.std.proofs.Common.{◌≡◌, ◌==◌, ◌≤◌, ℕ, Bool, true, false, length, Option, Some, None, unwrap_or, nat_lt, cond, refl, arith, rules, tests}
use Rattle.std.specs.List.{position_or_len, position}
use Rattle.std.proofs.lemmas.Bool.Decides.{nat_tests}
use Rattle.std.proofs.lemmas.List.Sums.{prefix_len-le-length}
use Rattle.std.proofs.lemmas.Iterator.{YieldsList-from_slice}
use Rattle.std.proofs.lemmas.Iterator.Search.{position_from_yields_List}
use Rattle.mos_words.proofs.command_line.shape.place_of.Goals as goal

by_test : (place size : ℕ) (below : Bool) → place ≤ size → nat_lt place size ≡ below → unwrap_or (cond below (Some place) None) size ≡ place
by_test place size true h e = refl
by_test place size false h e = grind (arith, nat_tests)

-- the place that is found, or else the length, is the first place or the length
place_or_length : (found : Option ℕ) (place size : ℕ) → place ≤ size → found ≡ cond (nat_lt place size) (Some place) None → unwrap_or found size ≡ place
place_or_length found place size h e = rw e (by_test place size _ h refl)

pub returns-clause-place : goal.returns-clause-place
returns-clause-place c =
    let text = c.args.text.now in
    let found : c.position.result ≡ position (λ byte. byte == c.args.wanted) text = position_from_yields_List (λ byte. byte == c.args.wanted) _ _ _ c.position.ensures.ran (YieldsList-from_slice _ cc) (λ x b q k. search (rules, tests)) in
    rw c.unwrap_or.ensures (place_or_length c.position.result (position_or_len (λ byte. byte == c.args.wanted) text) (length text) (prefix_len-le-length _ text) found)

pub returns-clause-within : goal.returns-clause-within
returns-clause-within c =
    let text = c.args.text.now in
    let found : c.position.result ≡ position (λ byte. byte == c.args.wanted) text = position_from_yields_List (λ byte. byte == c.args.wanted) _ _ _ c.position.ensures.ran (YieldsList-from_slice _ cc) (λ x b q k. search (rules, tests)) in
    rw (c.unwrap_or.ensures, place_or_length c.position.result (position_or_len (λ byte. byte == c.args.wanted) text) (length text) (prefix_len-le-length _ text) found) (prefix_len-le-length _ text)
