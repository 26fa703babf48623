use Rattle.std.proofs.Common.{ap, ◌∙◌}
use Rattle.shmem_block.specs.Names.{place_under}
use Rattle.shmem_block.specs.Index.{IsIndexOf}
use Rattle.shmem_block.proofs.Writes.{put_noted, none_noted, still_few}
use Rattle.shmem_block.proofs.blocks.Blocks.note.Goals as goal
use Rattle.shmem_block.proofs.blocks.Blocks.note.Goals.{in-Some, in_default}

pub returns-clause-noted : goal.returns-clause-noted
returns-clause-noted c = λ journal stands few.
    let mid : IsIndexOf c.ready_for.new.self journal = c.ready_for.ensures.same journal stands in
    elim c.match-written_name.branch [
      | in-Some w ↦ record {
        count = c.one_more-self.ensures journal c.args.entry.now (ap (λ b. b.count) w.self-is ∙ mid.count) (still_few journal c.args.entry.now few);
        writes = λ name. ap (λ b. place_under name b.writes) w.self-is
            ∙ put_noted c.ready_for.new.self.writes w.put.new.self _ c.ready_for.new.self.count journal c.args.entry.now w.put.ensures w.in-Some.ensures mid.count mid.writes name;
      }
      | in_default w ↦ record {
        count = c.one_more-self.ensures journal c.args.entry.now (ap (λ b. b.count) w.self-is ∙ mid.count) (still_few journal c.args.entry.now few);
        writes = λ name. ap (λ b. place_under name b.writes) w.self-is
            ∙ none_noted c.ready_for.new.self.writes journal c.args.entry.now w.in_default.ensures mid.writes name;
      }
    ]
