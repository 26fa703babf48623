use Rattle.std.proofs.Common.{◌<◌, ◌∷◌, [], ◌++◌, sym, subst, length, arith}
use Rattle.job_calls.specs.Pipes.{put_by, untaken_bytes}
use Rattle.mempipe.specs.Bytes.{IsUntaken}
use Rattle.mempipe.specs.Index.{IsIndexOf, AreEndsOf}
use Rattle.mempipe.specs.Pipes.{ends_at, untaken_at}
use Rattle.mempipe.proofs.Fair.{fair}
use Rattle.mempipe.proofs.Flows.{untaken_noted, few_put}
use Rattle.mempipe.proofs.Noted.{ends_noted, orderly_noted, finish_noted, started_noted}
use Rattle.mempipe.proofs.pipe.Pipe.note.Goals as goal

pub returns-clause-noted : goal.returns-clause-noted
returns-clause-noted c = λ journal stands legal.
    let e = c.args.entry.now in
    let mid : IsIndexOf c.ready_for.new.self journal = c.ready_for.ensures.same journal stands in
    let told = c.tell.ensures in
    let just = fair c.replies_are_true.ensures journal e legal in
    record {
      count = c.one_more-self.ensures journal e mid.count (let few = c.few_entries.ensures (journal ++ e ∷ []) legal in omega (arith, few));
      finishes = λ k. finish_noted k journal e c.ready_for.new.self.count _ _ mid.count (mid.finishes k) (c.tell_finish.ensures.finished k);
      first = (let long = c.tell_finish.ensures.length in let first = mid.first in omega (arith, long, first));
      started = λ k is. subst (λ n. k < n) (sym c.tell_finish.ensures.length)
          (started_noted k journal e (length c.ready_for.new.self.finishes.items) (mid.started k) (c.in_ok-ready_for.ensures.ready.runs k) is);
      ends = λ name. subst (λ x. AreEndsOf x name (journal ++ e ∷ [])) (sym (told.ends name))
          (ends_noted name (ends_at name c.ready_for.new.self.pipes) c.ready_for.new.self.count journal e mid.count (mid.orderly name) (mid.ends name));
      bytes = λ name. subst (IsUntaken (untaken_at name c.tell.new.self))
          (sym (untaken_noted name journal e (mid.orderly name).flows (just.puts name)))
          (told.bytes name (untaken_bytes name journal) (mid.bytes name)
          (few_put name journal (put_by name e.call e.reply) (mid.orderly name).few (just.puts name)));
      here = λ name. told.here name (mid.here name);
      orderly = λ name. orderly_noted name journal e just (mid.orderly name);
    }
