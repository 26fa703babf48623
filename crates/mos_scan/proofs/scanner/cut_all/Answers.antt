use Rattle.std.proofs.Common.{◌+◌, sym, subst, List}
use Rattle.std.proofs.lemmas.Bool.{eqb-true}
use Rattle.mos_scan.specs.declared.token.Token.{Token}
use Rattle.mos_scan.specs.Scanning.{IsWholeCut}
use Rattle.mos_scan.proofs.Scans.{Scanned, scanned_fault, scanned_gap, scanned_token, scanned_end, scanned_whole}
use Rattle.mos_scan.proofs.scanner.cut_all.Goals as goal

pub loop-rest-preserved-in-Gap : goal.loop-rest-preserved-in-Gap
loop-rest-preserved-in-Gap c = scanned_gap _ c.loop-rest.rest.now _ _ _ c.loop-rest.invariant c.in-Gap.length c.in-Gap.ensures.stands c.split_at.result.0.now _ c.split_at.ensures.front c.split_at.ensures.back _ c.newlines.ensures.value

pub loop-rest-preserved : goal.loop-rest-preserved
loop-rest-preserved c =
    subst (λ (ts : List Token). Scanned c.args.bytes.now c.split_at-in-Token.result.1.now (c.loop-rest.at + c.in-Token.length) (c.loop-rest.line + c.newlines-in-Token.result) ts) (sym c.in_ok-push-in-Token.ensures.items)
    (scanned_token c.args.bytes.now c.loop-rest.rest.now c.loop-rest.at c.loop-rest.line c.loop-rest.tokens.items c.loop-rest.invariant c.in-Token.kind c.in-Token.length c.in-Token.ensures.stands (sym c.if-is_end_model.ensures) c.split_at-in-Token.result.0.now c.split_at-in-Token.result.1.now c.split_at-in-Token.ensures.front c.split_at-in-Token.ensures.back c.newlines-in-Token.result c.newlines-in-Token.ensures.value)

pub returns-then-is_end_model : goal.returns-then-is_end_model
returns-then-is_end_model c =
    subst (λ (ts : List Token). IsWholeCut c.args.bytes.now ts (c.loop-rest.at + c.in-Token.length)) (sym c.in_ok-push-in-Token.ensures.items)
    (scanned_end c.args.bytes.now c.loop-rest.rest.now c.loop-rest.at c.loop-rest.line c.loop-rest.tokens.items c.loop-rest.invariant c.in-Token.kind c.in-Token.length c.in-Token.ensures.stands (sym c.if-is_end_model.ensures))

pub returns : goal.returns
returns c = scanned_whole _ c.loop-rest.rest.now _ _ _ c.loop-rest.invariant (eqb-true _ _ (sym c.loop-rest-test.ensures))

pub returns-in-Fault : goal.returns-in-Fault
returns-in-Fault c = scanned_fault _ c.loop-rest.rest.now _ _ _ c.loop-rest.invariant c.in-Fault.error c.in-Fault.offset c.in-Fault.ensures.stands _ c.in_ok-kind-in-Fault.ensures
