use Rattle.std.proofs.Common.{subst, arith}
use Rattle.mos_scan.specs.Cuts.{Stops, read_whole, read_to_fault, no_token}
use Rattle.mos_scan.specs.Scanning.{IsCut, IsWholeCut}
use Rattle.mos_scan.proofs.Verdicts.{not_text, fault_is}
use Rattle.mos_scan.proofs.scanner.scan_all.Goals as goal

pub returns-then-valid-read-clause-fault : goal.returns-then-valid-read-clause-fault
returns-then-valid-read-clause-fault c =
    let w : IsWholeCut c.args.bytes.now c.in-Whole.tokens.items c.in-Whole.read = subst (IsCut c.args.bytes.now) c.in-Whole.is c.in_ok-tokens.ensures in
    fault_is _ _ _ _ c.fault_at.ensures (not_text c.args.bytes.now _ _ (read_whole _ w.parts w.left w.whole w.reach) c.valid_length-valid.ensures.value c.if-valid-read.true)

pub returns-then-valid-place-clause-fault : goal.returns-then-valid-place-clause-fault
returns-then-valid-place-clause-fault c =
    let s : Stops c.args.bytes.now c.in-Stopped.place c.in-Stopped.kind = subst (IsCut c.args.bytes.now) c.in-Stopped.is c.in_ok-tokens.ensures in
    fault_is _ _ _ _ c.fault_at-then-valid-place.ensures (not_text c.args.bytes.now _ _ (read_to_fault _ _ s) c.valid_length-valid.ensures.value (omega (arith, c.if-valid-place.true)))

pub returns-else-valid-place-clause-fault : goal.returns-else-valid-place-clause-fault
returns-else-valid-place-clause-fault c =
    let s : Stops c.args.bytes.now c.in-Stopped.place c.in-Stopped.kind = subst (IsCut c.args.bytes.now) c.in-Stopped.is c.in_ok-tokens.ensures in
    fault_is _ _ _ _ c.fault_at-else-valid-place.ensures (no_token _ _ s (omega (arith, c.valid_length-valid.ensures.value, c.if-valid-place.false)))
