-- The bytes of a pipe that nobody has taken, with one entry more.

use Rattle.std.proofs.Common.{◌≡◌, ◌≤◌, ◌+◌, ℕ, suc, zero, Bool, true, false, List, [], ◌∷◌, ◌++◌, Option, Some, None, refl, sym, ap, subst, ◌∙◌, length, length-append, drop, arith, append_assoc}
use Rattle.std.specs.Prelude.{is_some, if◌then◌else◌}
use Rattle.std.specs.Option.{option_map_or}
use Rattle.std.proofs.Math.Seq.{drop-append_seam, drop-append-add}
use Rattle.std.proofs.lemmas.List.{drop-append-le, length-drop, drop-drop}
use Rattle.job_calls.specs.declared.call.Way.TheVariants.{Reads}
use Rattle.job_calls.specs.declared.entry.Entry.{Entry}
use Rattle.job_calls.specs.Pipes.{opens, session, in_session, put_by, taken_by, put_in, taken_in, untaken_bytes}
use Rattle.growing_lists.specs.Growing.{flat_map-snoc}
use Rattle.mempipe.specs.States.{bytes_after}
use Rattle.mempipe.proofs.Places.{place_below}
use Rattle.mempipe.proofs.Sessions.{session-snoc}
use Rattle.mempipe.proofs.Answered.{Puts, no_put, well, false_true}
use Rattle.mempipe.proofs.Fair.{Takes, no_take, takes_all}

-- the entries behind a place, if there is one
abbrev behind : Option ℕ → List Entry → List Entry
behind o journal = option_map_or (λ place. drop (place + 1) journal) o []

-- the entries of the session that goes on or begins
data Part (name : List ℕ) (journal : List Entry) (e : Entry) : Type 0 where
  begins : opens Reads name e ≡ true → in_session name (journal ++ e ∷ []) ≡ [] → Part name journal e
  no_session : opens Reads name e ≡ false → is_some (session name journal) ≡ false → in_session name journal ≡ []
      → in_session name (journal ++ e ∷ []) ≡ [] → Part name journal e
  goes_on : opens Reads name e ≡ false → in_session name (journal ++ e ∷ []) ≡ in_session name journal ++ e ∷ [] → Part name journal e

part_on : (name : List ℕ) (journal : List Entry) (e : Entry) (o : Option ℕ) → opens Reads name e ≡ false → session name journal ≡ o
    → session name (journal ++ e ∷ []) ≡ o → Part name journal e
part_on name journal e None is q r = no_session is (ap is_some q) (ap (λ s. behind s journal) q) (ap (λ s. behind s (journal ++ e ∷ [])) r)
part_on name journal e (Some place) is q r =
    let below = place_below (opens Reads name) journal place q in
    goes_on is (
    ap (λ s. behind s (journal ++ e ∷ [])) r
    ∙ drop-append-le (place + 1) journal (e ∷ []) (omega (arith, below))
    ∙ ap (λ s. behind s journal ++ e ∷ []) (sym q)
    )

part_by : (name : List ℕ) (journal : List Entry) (e : Entry) (b : Bool) → opens Reads name e ≡ b → Part name journal e
part_by name journal e true is =
    begins is (
    ap (λ s. behind s (journal ++ e ∷ [])) (session-snoc name journal e ∙ ap (λ b. if b then Some (length journal) else session name journal) is)
    ∙ drop-append-add journal (e ∷ []) 1
    )
part_by name journal e false is =
    part_on name journal e (session name journal) is refl (session-snoc name journal e ∙ ap (λ b. if b then Some (length journal) else session name journal) is)

part : (name : List ℕ) (journal : List Entry) (e : Entry) → Part name journal e
part name journal e = part_by name journal e (opens Reads name e) refl

put-snoc : (name : List ℕ) (es : List Entry) (e : Entry) → put_in name (es ++ e ∷ []) ≡ put_in name es ++ put_by name e.call e.reply
put-snoc name es e = flat_map-snoc (λ (x : Entry). put_by name x.call x.reply) es e

taken-snoc : (name : List ℕ) (es : List Entry) (e : Entry) → taken_in name (es ++ e ∷ []) ≡ taken_in name es ++ taken_by name e.call e.reply
taken-snoc name es e = flat_map-snoc (λ (x : Entry). taken_by name x.call x.reply) es e

drop_all : (n : ℕ) (xs : List ℕ) → xs ≡ [] → drop n xs ≡ []
drop_all zero xs e = e
drop_all (suc n) [] e = refl
drop_all (suc n) (x ∷ xs) e = absurd (let long = ap (λ ys. length ys) e in omega (arith, long))

-- bytes that were put into entries, and not taken out of them
abbrev left_in : List ℕ → List Entry → List ℕ
left_in name es = drop (length (taken_in name es)) (put_in name es)

left_none : (name : List ℕ) (es : List Entry) → es ≡ [] → left_in name es ≡ []
left_none name es none = ap (left_in name) none

-- what was put, taken and left
drop_more : (taken more put rest : List ℕ) → put ≡ taken ++ rest → drop (length (taken ++ more)) put ≡ drop (length more) rest
drop_more taken more put rest is =
    ap (λ n. drop n put) (length-append taken more)
    ∙ sym (drop-drop (length more) (length taken) put)
    ∙ ap (λ xs. drop (length more) (drop (length taken) xs)) is
    ∙ ap (drop (length more)) (drop-append_seam taken rest)

left_more : (name : List ℕ) (es : List Entry) (e : Entry) → put_in name es ≡ taken_in name es ++ left_in name es
    → left_in name (es ++ e ∷ []) ≡ drop (length (taken_by name e.call e.reply)) (left_in name es ++ put_by name e.call e.reply)
left_more name es e flows =
    ap (λ xs. drop (length xs) (put_in name (es ++ e ∷ []))) (taken-snoc name es e)
    ∙ drop_more (taken_in name es) (taken_by name e.call e.reply) (put_in name (es ++ e ∷ [])) (left_in name es ++ put_by name e.call e.reply)
    (put-snoc name es e ∙ ap (λ xs. xs ++ put_by name e.call e.reply) flows ∙ append_assoc (taken_in name es) (left_in name es) (put_by name e.call e.reply))

after_by : (name bytes : List ℕ) (e : Entry) (b : Bool) → opens Reads name e ≡ b
    → bytes_after name bytes e ≡ (if b then [] else drop (length (taken_by name e.call e.reply)) (bytes ++ put_by name e.call e.reply))
after_by name bytes e b is = ap (λ b. if b then [] else drop (length (taken_by name e.call e.reply)) (bytes ++ put_by name e.call e.reply)) is

not_begun : (name : List ℕ) (journal : List Entry) (bytes : List ℕ) → is_some (session name journal) ≡ false → Puts name journal bytes → bytes ≡ []
not_begun name journal bytes none (no_put is) = is
not_begun name journal bytes none (well w) = absurd (false_true (sym none ∙ w.begun))

untaken_by : (name : List ℕ) (journal : List Entry) (e : Entry) → put_in name (in_session name journal) ≡ taken_in name (in_session name journal) ++ untaken_bytes name journal
    → Puts name journal (put_by name e.call e.reply) → Part name journal e
    → untaken_bytes name (journal ++ e ∷ []) ≡ bytes_after name (untaken_bytes name journal) e
untaken_by name journal e flows puts (begins is now) = left_none name (in_session name (journal ++ e ∷ [])) now ∙ sym (after_by name (untaken_bytes name journal) e true is)
untaken_by name journal e flows puts (no_session is none was now) =
    let put = put_by name e.call e.reply in
    let taken = taken_by name e.call e.reply in
    left_none name (in_session name (journal ++ e ∷ [])) now
    ∙ sym (after_by name (untaken_bytes name journal) e false is
    ∙ ap (λ u. drop (length taken) (u ++ put)) (left_none name (in_session name journal) was)
    ∙ drop_all (length taken) put (not_begun name journal put none puts))
untaken_by name journal e flows puts (goes_on is now) =
    ap (left_in name) now ∙ left_more name (in_session name journal) e flows ∙ sym (after_by name (untaken_bytes name journal) e false is)

-- the bytes that nobody has taken
pub untaken_noted : (name : List ℕ) (journal : List Entry) (e : Entry)
    → put_in name (in_session name journal) ≡ taken_in name (in_session name journal) ++ untaken_bytes name journal → Puts name journal (put_by name e.call e.reply)
    → untaken_bytes name (journal ++ e ∷ []) ≡ bytes_after name (untaken_bytes name journal) e
untaken_noted name journal e flows puts = untaken_by name journal e flows puts (part name journal e)

-- they are at most 4,096, with what is put now
pub few_put : (name : List ℕ) (journal : List Entry) (bytes : List ℕ) → length (untaken_bytes name journal) ≤ 4096 → Puts name journal bytes
    → length (untaken_bytes name journal) + length bytes ≤ 4096
few_put name journal bytes few (no_put is) = let none = ap (λ xs. length xs) is in omega (arith, few, none)
few_put name journal bytes few (well w) = w.few

few_by : (b : Bool) (t : ℕ) (bytes put : List ℕ) → length bytes + length put ≤ 4096 → length (if b then [] else drop t (bytes ++ put)) ≤ 4096
few_by true t bytes put few = omega arith
few_by false t bytes put few =
    let all = length-append bytes put in
    let left = length-drop t (bytes ++ put) in
    omega (arith, few, all, left)

pub few_noted : (name : List ℕ) (journal : List Entry) (e : Entry) → length (untaken_bytes name journal) ≤ 4096 → Puts name journal (put_by name e.call e.reply)
    → untaken_bytes name (journal ++ e ∷ []) ≡ bytes_after name (untaken_bytes name journal) e → length (untaken_bytes name (journal ++ e ∷ [])) ≤ 4096
few_noted name journal e few puts is =
    subst (λ xs. length xs ≤ 4096) (sym is)
    (few_by (opens Reads name e) (length (taken_by name e.call e.reply)) (untaken_bytes name journal) (put_by name e.call e.reply)
    (few_put name journal (put_by name e.call e.reply) few puts))

-- what was put is what was taken, and what is left
all_flows : (name : List ℕ) (journal : List Entry) (put taken : List ℕ)
    → put_in name (in_session name journal) ≡ taken_in name (in_session name journal) ++ untaken_bytes name journal → Takes name journal put taken
    → untaken_bytes name journal ++ put ≡ taken ++ drop (length taken) (untaken_bytes name journal ++ put)
all_flows name journal put taken flows (no_take none) =
    sym (ap (λ t. t ++ drop (length t) (untaken_bytes name journal ++ put)) none)
all_flows name journal put taken flows (takes_all none all) =
    let left : untaken_bytes name journal ≡ taken =
    ap (drop (length (taken_in name (in_session name journal)))) all ∙ drop-append_seam (taken_in name (in_session name journal)) taken in
    let whole : untaken_bytes name journal ++ put ≡ taken ++ [] = ap (λ p. untaken_bytes name journal ++ p) none ∙ ap (λ u. u ++ []) left in
    whole ∙ ap (λ xs. taken ++ xs) (sym (drop-append_seam taken [])) ∙ ap (λ xs. taken ++ drop (length taken) xs) (sym whole)

flows_on : (name : List ℕ) (journal : List Entry) (e : Entry) → put_in name (in_session name journal) ≡ taken_in name (in_session name journal) ++ untaken_bytes name journal
    → Takes name journal (put_by name e.call e.reply) (taken_by name e.call e.reply)
    → put_in name (in_session name journal ++ e ∷ []) ≡ taken_in name (in_session name journal ++ e ∷ []) ++ left_in name (in_session name journal ++ e ∷ [])
flows_on name journal e flows takes =
    let es = in_session name journal in
    let put = put_by name e.call e.reply in
    let taken = taken_by name e.call e.reply in
    let left = untaken_bytes name journal in
    put-snoc name es e
    ∙ ap (λ xs. xs ++ put) flows
    ∙ append_assoc (taken_in name es) left put
    ∙ ap (λ xs. taken_in name es ++ xs) (all_flows name journal put taken flows takes)
    ∙ sym (append_assoc (taken_in name es) taken (drop (length taken) (left ++ put)))
    ∙ ap (λ xs. xs ++ drop (length taken) (left ++ put)) (sym (taken-snoc name es e))
    ∙ ap (λ xs. taken_in name (es ++ e ∷ []) ++ xs) (sym (left_more name es e flows))

flows_none : (name : List ℕ) (es : List Entry) → es ≡ [] → put_in name es ≡ taken_in name es ++ left_in name es
flows_none name es none = subst (λ xs. put_in name xs ≡ taken_in name xs ++ left_in name xs) (sym none) refl

flows_by : (name : List ℕ) (journal : List Entry) (e : Entry) → put_in name (in_session name journal) ≡ taken_in name (in_session name journal) ++ untaken_bytes name journal
    → Takes name journal (put_by name e.call e.reply) (taken_by name e.call e.reply) → Part name journal e
    → put_in name (in_session name (journal ++ e ∷ [])) ≡ taken_in name (in_session name (journal ++ e ∷ [])) ++ untaken_bytes name (journal ++ e ∷ [])
flows_by name journal e flows takes (begins is now) = flows_none name (in_session name (journal ++ e ∷ [])) now
flows_by name journal e flows takes (no_session is none was now) = flows_none name (in_session name (journal ++ e ∷ [])) now
flows_by name journal e flows takes (goes_on is now) =
    subst (λ xs. put_in name xs ≡ taken_in name xs ++ left_in name xs) (sym now) (flows_on name journal e flows takes)

pub flows_noted : (name : List ℕ) (journal : List Entry) (e : Entry) → put_in name (in_session name journal) ≡ taken_in name (in_session name journal) ++ untaken_bytes name journal
    → Takes name journal (put_by name e.call e.reply) (taken_by name e.call e.reply)
    → put_in name (in_session name (journal ++ e ∷ [])) ≡ taken_in name (in_session name (journal ++ e ∷ [])) ++ untaken_bytes name (journal ++ e ∷ [])
flows_noted name journal e flows takes = flows_by name journal e flows takes (part name journal e)
