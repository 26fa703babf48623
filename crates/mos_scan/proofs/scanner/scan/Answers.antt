use Rattle.mos_scan.proofs.One.{only_list, taken_list, only_fault, few_found}
use Rattle.mos_scan.proofs.scanner.scan.Goals as goal

pub returns-clause-only : goal.returns-clause-only
returns-clause-only c = only_list (λ v. v.items) c.args.bytes.now c.scan_all.result c.scan_all.ensures.found

pub returns-clause-taken : goal.returns-clause-taken
returns-clause-taken c = taken_list c.args.bytes.now c.scan_all.result c.scan_all.ensures.fault

pub returns-clause-named : goal.returns-clause-named
returns-clause-named c = only_fault (λ v. v.items) c.args.bytes.now c.scan_all.result c.scan_all.ensures.found c.scan_all.ensures.fault

pub returns-clause-few : goal.returns-clause-few
returns-clause-few c = few_found (λ v. v.items) c.args.bytes.now c.scan_all.result c.scan_all.ensures.found
