-- a sound tree that is not large can be compiled, and its code is short
use Rattle.std.proofs.Common.{◌≤◌, ◌<◌, ◌+◌, ◌*◌, ◌^◌, arith}
use Rattle.std.proofs.lemmas.Result.{IfOk-weaker}
use Rattle.bim_code.specs.Code.{code_size}
use Rattle.bim_compile.specs.Sizes.{size_of_block}
use Rattle.mos_meaning.specs.Sources.{statements_of}
use Rattle.mosel_run.proofs.ModelSizes.{model_within}
use Rattle.mosel_run.proofs.image.image_of.Goals as goal

pub compile-requires : goal.compile-requires
compile-requires c =
    let tree = c.args.tree.now in
    let sound = c.requires.sound in
    record {
      can_compile = record {
        works = c.checked_models.ensures tree sound.checked.names sound.built sound.checked.known;
        not_large = omega (arith, model_within tree, c.requires.not_large);
      };
    }

pub returns-clause-small : goal.returns-clause-small
returns-clause-small c =
    let model = statements_of c.args.tree.now in
    let within = model_within c.args.tree.now in
    let limit = c.requires.not_large in
    IfOk-weaker c.compile.result (λ image. code_size image.code ≤ 13 * size_of_block model + 6) (λ image. code_size image.code < 2 ^ 30)
    (λ image few. omega (arith, within, limit, few)) c.compile.ensures.size
