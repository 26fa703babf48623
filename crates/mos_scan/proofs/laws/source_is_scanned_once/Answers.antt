use Rattle.mos_scan.proofs.One.{one_list, one_fault, list_or_fault}
use Rattle.mos_scan.proofs.SomeCut.{some_list_or_fault}
use Rattle.mos_scan.proofs.laws.source_is_scanned_once.Goals as goal

pub returns-clause-tokens : goal.returns-clause-tokens
returns-clause-tokens c = one_list

pub returns-clause-fault : goal.returns-clause-fault
returns-clause-fault c = one_fault

pub returns-clause-apart : goal.returns-clause-apart
returns-clause-apart c = list_or_fault

pub returns-clause-some : goal.returns-clause-some
returns-clause-some c = some_list_or_fault
