use Rattle.std.proofs.Common.{refl, subst}
use Rattle.spv_expr.specs.declared.sources.Source.{Source}
use Rattle.spv_expr.specs.declared.sources.Source.TheVariants.{Nowhere}
use Rattle.spv_expr.specs.Looks.{IsPieceSource}
use Rattle.spv_expr.proofs.LookLemmas.{all_told, told_source}
use Rattle.spv_expr.proofs.sources.look_into.Goals as goal

pub returns-then-has_all : goal.returns-then-has_all
returns-then-has_all c =
    let t = c.args.tables.now in (
      all_told t c.args.instance c.args.span c.args.event.now c.args.telling c.requires.told c.requires.small (c.if-has_all.ensures refl),
      told_source t c.args.instance c.args.span c.args.event.now c.args.telling c.requires.told c.requires.small c.in-Some.source c.in-Some.ensures,
    )

pub returns-in-Nowhere : goal.returns-in-Nowhere
returns-in-Nowhere c =
    let t = c.args.tables.now in
    let nowhere = subst (λ (s : Source). IsPieceSource t c.args.telling.debug.now c.args.event.now s) c.in-Nowhere.is c.in-Some.ensures in
    told_source t c.args.instance c.args.span c.args.event.now c.args.telling c.requires.told c.requires.small Nowhere nowhere
