-- How far back a group can undo, at a later position.
use Rattle.std.proofs.Common.{◌≡◌, ◌≤◌, ℕ, ap₂, sym, subst}
use Rattle.spv_group.specs.Group.{Held, Undoing, entries_in, group_at, window_in}
use Rattle.spv_group.specs.History.{window}
use Rattle.spv_group.proofs.WindowLemmas.{windows_rise}

-- the window of the same run at a later position isn't lower
pub window_later : (u t : Undoing) → t.group ≡ group_at t.group.position u.group → t.limit ≡ u.limit → u.group.position ≤ t.group.position → window_in u ≤ window_in t
window_later u t same limit later =
    let at : window_in t ≡ window u.limit u.group.program (entries_in u.group) t.group.position
    = ap₂ (λ (l : ℕ) (g : Held). window l g.program (entries_in g) t.group.position) limit same in
    subst (λ (n : ℕ). window_in u ≤ n) (sym at) (windows_rise u.limit u.group.program (entries_in u.group) u.group.position t.group.position later)
