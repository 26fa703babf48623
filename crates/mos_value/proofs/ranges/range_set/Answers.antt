-- the integers come one after the other
use Rattle.std.proofs.Common.{◌≡◌, ◌≤◌, ◌++◌, ◌∷◌, [], ◌+ℤ◌, pos, Ok, Err, length, ap, sym, subst, ◌∙◌, arith, rules}
use Rattle.std.specs.Prelude.{◌≤ℤ◌, ◌<ℤ◌}
use Rattle.std.specs.Int.RustNames.{FitsSigned}
use Rattle.std.proofs.lemmas.Int.{ints, to_z-of_z}
use Rattle.std.proofs.lemmas.Result.{err_from_is_err_and}
use mir.Syntax.{w32, w64}
use mir.Val.{to_z, of_z}
use Rattle.mos_text.specs.declared.scalar.Scalar.TheVariants.{Int}
use Rattle.mos_value.specs.Collections.{collection_limit}
use Rattle.mos_value.specs.UpToMemory.{UpToMemory}
use Rattle.mos_value.specs.Ranges.{range_count, range_members, range_set}
use Rattle.mos_value.proofs.CollectionLemmas.{collection_few, collection_many, collection_is, cause_further, refused_by}
use Rattle.mos_value.proofs.RangeLemmas.{length-range_members, range-step, range-end, range-room, below_if, not_below_if}
use Rattle.mos_value.proofs.ranges.range_set.Goals as goal

pub returns-then-range_count : goal.returns-then-range_count
returns-then-range_count c =
    let fits_a : FitsSigned w32 c.args.a = search rules in
    let fits_b : FitsSigned w32 c.args.b = search rules in
    let ea = to_z-of_z w32 c.args.a fits_a in
    let eb = to_z-of_z w32 c.args.b fits_b in
    let same : range_count (to_z w32 (of_z w32 c.args.a)) (to_z w32 (of_z w32 c.args.b)) ≡ range_count c.args.a c.args.b = λ i. range_count (ea i) (eb i) in
    collection_many (range_members c.args.a c.args.b)
    (omega (arith, ints, length-range_members c.args.a c.args.b, c.range_count.ensures, c.if-range_count.true, same))

pub returns-in_err-push : goal.returns-in_err-push
returns-in_err-push c =
    let a = to_z w32 (of_z w32 c.args.a) in
    let b = to_z w32 (of_z w32 c.args.b) in
    let n = to_z w64 c.loop-number.number-bits in
    let x = to_z w32 (of_z w32 n) in
    let fits_a : FitsSigned w32 c.args.a = search rules in
    let fits_b : FitsSigned w32 c.args.b = search rules in
    let ea = to_z-of_z w32 c.args.a fits_a in
    let eb = to_z-of_z w32 c.args.b fits_b in
    let p = err_from_is_err_and c.from_residual.result c.from_residual.ensures.1 in
    let behind = below_if n (to_z w64 (of_z w64 (to_z w64 (of_z w64 c.from-number-end.result) +ℤ pos 1))) c.loop-number-test.true in
    let some : n ≤ℤ b = omega (arith, ints, behind, c.from-number-end.ensures) in
    let room = range-room c.loop-number.members a b n x some c.loop-number.invariant.so_far in
    let refused = refused_by c.in_err-push.field-0.0 (range_set a b)
    (cause_further (c.loop-number.members ++ Int x ∷ []) (range_members a b) room c.in_err-push.field-0.0 c.in_err-push.ensures.0) in
    rw (p.1, p.2) (subst (λ defined. UpToMemory (Err c.in_err-push.field-0.0) defined) (λ i. range_set (ea i) (eb i)) refused)

pub loop-number-preserved : goal.loop-number-preserved
loop-number-preserved c =
    let a = to_z w32 (of_z w32 c.args.a) in
    let b = to_z w32 (of_z w32 c.args.b) in
    let n = to_z w64 c.loop-number.number-bits in
    let x = to_z w32 (of_z w32 n) in
    let next = to_z w64 (of_z w64 (n +ℤ pos 1)) in
    let i = c.loop-number.invariant in
    let behind = below_if n (to_z w64 (of_z w64 (to_z w64 (of_z w64 c.from-number-end.result) +ℤ pos 1))) c.loop-number-test.true in
    let some : n ≤ℤ b = omega (arith, ints, behind, c.from-number-end.ensures) in
    let after : next ≡ n +ℤ pos 1 = omega (arith, ints, some) in
    let same : x ≡ n = omega (arith, ints, some, i.begun) in
    let added = collection_is (c.loop-number.members ++ Int x ∷ []) c.push.new.self c.in_ok-push.ensures in
    record {
      so_far = range-step c.loop-number.members c.push.new.self a b n next x some after same added.0 i.so_far;
      begun = omega (arith, ints, after, i.begun);
    }

pub into_run-requires : goal.into_run-requires
into_run-requires c =
    let n = to_z w64 c.loop-number.number-bits in
    let over = not_below_if n (to_z w64 (of_z w64 (to_z w64 (of_z w64 c.from-number-end.result) +ℤ pos 1))) c.loop-number-test.false in
    let behind : to_z w32 (of_z w32 c.args.b) <ℤ n = omega (arith, ints, over, c.from-number-end.ensures) in
    range-end c.loop-number.members (to_z w32 (of_z w32 c.args.a)) (to_z w32 (of_z w32 c.args.b)) n behind c.loop-number.invariant.so_far

pub returns : goal.returns
returns c =
    let a = to_z w32 (of_z w32 c.args.a) in
    let b = to_z w32 (of_z w32 c.args.b) in
    let fits_a : FitsSigned w32 c.args.a = search rules in
    let fits_b : FitsSigned w32 c.args.b = search rules in
    let ea = to_z-of_z w32 c.args.a fits_a in
    let eb = to_z-of_z w32 c.args.b fits_b in
    let few : length (range_members a b) ≤ collection_limit = omega (arith, ints, length-range_members a b, c.range_count.ensures, c.if-range_count.false) in
    (λ i. range_set (sym ea i) (sym eb i)) ∙ (collection_few (range_members a b) few ∙ ap Ok (sym c.into_run.ensures))
