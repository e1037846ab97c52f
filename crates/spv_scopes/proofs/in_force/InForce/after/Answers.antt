use Rattle.std.proofs.Common.{◌≡◌, ◌∙◌, [], ◌∷◌, true, refl, sym}
use Rattle.spv_index.specs.Classes.{is_label}
use Rattle.spv_index.specs.Positions.{Stand}
use Rattle.spv_scopes.specs.InForce.{in_force}
use Rattle.spv_scopes.proofs.in_force.InForce.after.Goals as goal

pub returns-then-is_label : goal.returns-then-is_label
returns-then-is_label c = λ before h.
    let t = c.args.tables.now in
    let stand = c.args.stand.now in
    let s : Stand = record { position = stand.position; class = stand.class; inst = stand.inst.now } in
    let label : is_label s.class ≡ true = sym c.is_label.ensures ∙ c.if-is_label.true in
    let first : in_force t (s ∷ before) ≡ in_force t [] = rw label refl in
    c.none.ensures t ∙ sym first
