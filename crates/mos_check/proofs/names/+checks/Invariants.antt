-- what is found of the statements still to come is found of all
use Rattle.std.proofs.Common.{◌≡◌, drop, map}
use Rattle.mos_check.specs.Names.{and_then, check_all, check_arms, check_statement}
use Rattle.mos_tree.specs.Children.{in_arm}
use Rattle.mos_check.proofs.names.+checks.Given as goal

abbrev pub invariant-check_all-loop-statement : goal.invariant-check_all-loop-statement
invariant-check_all-loop-statement l =
    check_all (map check_statement (drop l.statement-index l.all)) l.inside l.known ≡ check_all (map check_statement l.all) l.inside l.initial.known

abbrev pub invariant-check_statement-loop-arm : goal.invariant-check_statement-loop-arm
invariant-check_statement-loop-arm l =
    and_then (check_arms (map (in_arm check_statement) (drop l.arm-index l.arm-items)) l.inside l.known) (check_all (map check_statement l.otherwise) l.inside)
    ≡ and_then (check_arms (map (in_arm check_statement) l.arm-items) l.inside l.initial.known) (check_all (map check_statement l.otherwise) l.inside)
