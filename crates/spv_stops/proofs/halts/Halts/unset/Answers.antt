use Rattle.std.proofs.Common.{◌≡◌, ℕ, ◌<◌, not, ap, ◌∙◌, rules}
use Rattle.std.proofs.lemmas.Fn.{filter_same}
use Rattle.std.proofs.lemmas.List.Elements.{All-filter, All-same}
use Rattle.spv_stops.specs.Stops.{has_number}
use Rattle.spv_stops.specs.Halts.{without_halt}
use Rattle.spv_stops.proofs.halts.Halts.unset.Goals as goal

left : (c : goal.After-retain) → c.retain.new.self.items ≡ without_halt c.args.k c.self.inside.halts.items
left c = filter_same _ (λ (halt : ℕ × ℕ). not (has_number c.args.k halt)) _ (λ x b f' k. search rules) c.self.inside.halts.items c.retain.new.self.items c.retain.ensures.filtered

pub returns : goal.returns
returns c = left c ∙ ap (without_halt c.args.k) c.self.view_is

pub invariant_of-self : goal.invariant_of-self
invariant_of-self c =
    All-same (λ (halt : ℕ × ℕ). 0 < halt.1) c.retain.new.self.items _ (left c)
    (All-filter (λ (halt : ℕ × ℕ). not (has_number c.args.k halt)) (λ (halt : ℕ × ℕ). 0 < halt.1) c.self.inside.halts.items c.self.invariant)
