use Rattle.std.proofs.Common.{rules, refl}
use Rattle.std.proofs.lemmas.Iterator.Adapters.{YieldsList-from_vec}
use Rattle.std.proofs.lemmas.Iterator.Consumers.{YieldsList-turn, YieldsList-end}
use Rattle.mos_source.specs.Machine as spec
use Rattle.mos_source.proofs.Runs.{run-next, run-wrong-next, run-ends}
use Rattle.mos_source.proofs.reader.take_pieces.Goals as goal

pub loop-piece-init : goal.loop-piece-init
loop-piece-init c = refl

pub loop-piece-preserved : goal.loop-piece-preserved
loop-piece-preserved c =
    let turn = YieldsList-turn (YieldsList-from_vec {s = c.into_iter-piece-iterator.result} c.args.pieces.items (search rules) (search rules)) c.loop-piece.yielded c.loop-piece.piece-iterator c.loop-piece.yielded_by c.next.result c.next.new.self c.in-Some.piece c.in-Some.is c.next.ensures.steps in
    run-next c.args.pieces.items c.loop-piece.yielded c.in-Some.piece (spec.stack_of c.loop-piece.stack.items) (spec.stack_of c.take_piece.new.stack.items) _ turn.0 turn.1 c.in-Ok.ensures c.loop-piece.invariant

pub returns-in-Err : goal.returns-in-Err
returns-in-Err c =
    let turn = YieldsList-turn (YieldsList-from_vec {s = c.into_iter-piece-iterator.result} c.args.pieces.items (search rules) (search rules)) c.loop-piece.yielded c.loop-piece.piece-iterator c.loop-piece.yielded_by c.next.result c.next.new.self c.in-Some.piece c.in-Some.is c.next.ensures.steps in
    run-wrong-next c.args.pieces.items c.loop-piece.yielded c.in-Some.piece (spec.stack_of c.loop-piece.stack.items) _ (spec.stack_of c.take_piece.new.stack.items) c.in-Err.fault turn.0 turn.1 c.in-Err.ensures c.loop-piece.invariant

pub returns : goal.returns
returns c =
    let all = YieldsList-end (YieldsList-from_vec {s = c.into_iter-piece-iterator.result} c.args.pieces.items (search rules) (search rules)) c.loop-piece.yielded c.loop-piece.piece-iterator c.loop-piece.yielded_by c.next.result c.next.new.self c.in-None.is c.next.ensures.steps in
    run-ends c.args.pieces.items c.loop-piece.yielded (spec.stack_of c.loop-piece.stack.items) _ all.1 c.loop-piece.invariant
