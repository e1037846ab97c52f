use Rattle.std.proofs.Common.{◌≡◌, ◌++◌, ℕ, List, drop, filter, map, option_map}
use Rattle.std.specs.List.{All}
use Rattle.spv_base.specs.declared.values.Value.{Value}
use Rattle.spv_state.specs.State.{depth_of}
use Rattle.spv_sites.specs.Phis.{is_phi, phi_values}
use Rattle.spv_sites.specs.Planned.{IsPlain, phi_value}
use Rattle.spv_sites.specs.declared.effects.PhiValue.{PhiValue}
use Rattle.spv_control.proofs.phis.values_of.Given as goal

-- the phis so far have taken these values
abbrev pub invariant-loop-inst : goal.invariant-loop-inst
invariant-loop-inst l =
    All (λ (p : PhiValue). IsPlain p.value) l.values.items ×
    (phi_values l.site.program.accepted l.site.frame (depth_of l.site.state l.site.inv) l.from (filter is_phi l.insts)
    ≡ option_map (λ (rs : List (ℕ × Value)). map phi_value l.values.items ++ rs) (phi_values l.site.program.accepted l.site.frame (depth_of l.site.state l.site.inv) l.from (filter is_phi (drop l.inst-index l.insts))))
