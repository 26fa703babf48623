-- where the addresses stop to be at most this one, as many are
use Rattle.std.proofs.Common.{ℕ, leb, rules}
use Rattle.std.proofs.lemmas.List.Sorted.{IsPartitionPoint-from_clause, IsPartitionedBy-leb}
use Rattle.bim_rules.proofs.Starts.{counted}
use Rattle.bim_rules.proofs.code_map.many_up_to.Goals as goal

pub returns : goal.returns
returns c =
    let parted = IsPartitionedBy-leb (λ (n : ℕ). n) _ c.args.address c.requires in
    let point = IsPartitionPoint-from_clause (λ (n : ℕ). leb n c.args.address) _ _ c.partition_point.ensures.partitioned parted (λ a r q k. search rules) in
    counted c.args.address _ _ c.partition_point.ensures.bound point
