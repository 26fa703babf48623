use Rattle.std.proofs.Common.{◌∙◌, ap, sym, ◌||◌, ◌++◌, ◌∷◌, [], arith}
use Rattle.job_calls.specs.Entries.{is_run}
use Rattle.job_calls.specs.Runs.{last_of}
use Rattle.event_queue.specs.Deeds.{deed_of, starter, ender}
use Rattle.event_queue.specs.Index.{IsIndexOf}
use Rattle.event_queue.proofs.Arrivals as arrivals
use Rattle.event_queue.proofs.queues.EventQueue.note.Goals as goal

pub returns-clause-noted : goal.returns-clause-noted
returns-clause-noted c = λ journal stands legal.
    let e = c.args.entry.now in
    let deed = deed_of e.run e.call e.reply in
    let runs = c.ready_for.new.self.runs.items in
    let mid : IsIndexOf c.ready_for.new.self journal = c.ready_for.ensures.same journal stands in
    let told = c.tell.ensures in
    record {
      count = c.one_more-self.ensures journal e mid.count (let few = c.few_entries.ensures (journal ++ e ∷ []) legal in omega (arith, few));
      parents = λ k. told.parents k ∙ ap (λ o. last_of o (starter k deed)) (mid.parents k) ∙ sym (arrivals.parent_noted k journal e);
      ended = λ k. told.ended k ∙ ap (λ b. b || is_run k (ender deed)) (mid.ended k) ∙ sym (arrivals.ended_noted k journal e);
      queues = λ k. arrivals.queue_told runs c.tell.new.runs.items c.ready_for.new.self.count k journal e mid.count mid.parents (mid.queues k) (told.places k)
          (λ log l. (c.legal_keeps_laws.ensures log l).takes_in_order) legal;
    }
