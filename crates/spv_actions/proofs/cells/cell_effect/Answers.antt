use Rattle.std.proofs.Common.{subst}
use Rattle.std.proofs.Math.Logic.{∥∥₁_elim, ∥∥₁_map}
use Rattle.std.proofs.Props.{props}
use Rattle.std.specs.Coded.{codes}
use Rattle.spv_state.specs.Predecoded.{IsShort}
use Rattle.spv_state.specs.declared.predecoded.Short.{Short}
use Rattle.spv_sites.specs.Sites.{accepted}
use Rattle.spv_actions.proofs.cells.cell_effect.Goals as goal

pub binary-requires-clause-computes : goal.binary-requires-clause-computes
binary-requires-clause-computes c =
    let x = c.args.site.now in
    let h = subst (λ (s : Short). ∥ IsShort (accepted x) x.frame.plan.function x.inst s ∥₁) c.in-Binary.is c.requires in
    ∥∥₁_elim h (hlevel (props, codes)) (λ s. s.0)

pub binary-requires-clause-operation : goal.binary-requires-clause-operation
binary-requires-clause-operation c =
    let x = c.args.site.now in
    let h = subst (λ (s : Short). ∥ IsShort (accepted x) x.frame.plan.function x.inst s ∥₁) c.in-Binary.is c.requires in
    ∥∥₁_elim h (hlevel (props, codes)) (λ s. s.1)

pub binary-requires-clause-first : goal.binary-requires-clause-first
binary-requires-clause-first c =
    let x = c.args.site.now in
    let h = subst (λ (s : Short). ∥ IsShort (accepted x) x.frame.plan.function x.inst s ∥₁) c.in-Binary.is c.requires in
    ∥∥₁_map h (λ s. s.2)

pub binary-requires-clause-second : goal.binary-requires-clause-second
binary-requires-clause-second c =
    let x = c.args.site.now in
    let h = subst (λ (s : Short). ∥ IsShort (accepted x) x.frame.plan.function x.inst s ∥₁) c.in-Binary.is c.requires in
    ∥∥₁_map h (λ s. s.3)

pub binary-requires-clause-into : goal.binary-requires-clause-into
binary-requires-clause-into c =
    let x = c.args.site.now in
    let h = subst (λ (s : Short). ∥ IsShort (accepted x) x.frame.plan.function x.inst s ∥₁) c.in-Binary.is c.requires in
    ∥∥₁_map h (λ s. s.4)

pub load-requires-clause-loads : goal.load-requires-clause-loads
load-requires-clause-loads c =
    let x = c.args.site.now in
    let h = subst (λ (s : Short). ∥ IsShort (accepted x) x.frame.plan.function x.inst s ∥₁) c.in-Load.is c.requires in
    ∥∥₁_elim h (hlevel (props, codes)) (λ s. s.0)

pub load-requires-clause-from : goal.load-requires-clause-from
load-requires-clause-from c =
    let x = c.args.site.now in
    let h = subst (λ (s : Short). ∥ IsShort (accepted x) x.frame.plan.function x.inst s ∥₁) c.in-Load.is c.requires in
    ∥∥₁_map h (λ s. s.1)

pub load-requires-clause-into : goal.load-requires-clause-into
load-requires-clause-into c =
    let x = c.args.site.now in
    let h = subst (λ (s : Short). ∥ IsShort (accepted x) x.frame.plan.function x.inst s ∥₁) c.in-Load.is c.requires in
    ∥∥₁_map h (λ s. s.2)

pub store-requires-clause-stores : goal.store-requires-clause-stores
store-requires-clause-stores c =
    let x = c.args.site.now in
    let h = subst (λ (s : Short). ∥ IsShort (accepted x) x.frame.plan.function x.inst s ∥₁) c.in-Store.is c.requires in
    ∥∥₁_elim h (hlevel (props, codes)) (λ s. s.0)

pub store-requires-clause-to : goal.store-requires-clause-to
store-requires-clause-to c =
    let x = c.args.site.now in
    let h = subst (λ (s : Short). ∥ IsShort (accepted x) x.frame.plan.function x.inst s ∥₁) c.in-Store.is c.requires in
    ∥∥₁_map h (λ s. s.1)

pub store-requires-clause-object : goal.store-requires-clause-object
store-requires-clause-object c =
    let x = c.args.site.now in
    let h = subst (λ (s : Short). ∥ IsShort (accepted x) x.frame.plan.function x.inst s ∥₁) c.in-Store.is c.requires in
    ∥∥₁_map h (λ s. s.2)
