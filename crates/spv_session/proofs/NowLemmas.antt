-- The tests of the probes of a session before any is dropped, and what is told and spent by those that are there.
use Rattle.std.proofs.Common.{◌≡◌, ◌∙◌, ℕ, Bool, List, Option, ap, subst, sym}
use Rattle.spv_base.specs.declared.happenings.Happening.{Happening}
use Rattle.spv_group.specs.Group.{Undoing}
use Rattle.spv_probe.specs.Kits.{tests_of}
use Rattle.spv_session.specs.Costs.{cost_by, line_cost}
use Rattle.spv_session.specs.Reply.{line_reply, reply}
use Rattle.spv_session.specs.View.{IsKitOf, Settings, View, Viewing, first_viewing, tests_at}

module _ {P : Type 0} (tally : P → ℕ) (test : P → Happening → Bool) where
  -- before any probe is dropped the tests that are there are the settings
  pub tests_first : (settings : Settings) (u : Undoing) (s : Viewing) (boxes : List (Option P)) → s ≡ first_viewing u → IsKitOf tally test settings s.view boxes → tests_of test boxes ≡ settings
  tests_first settings u s boxes first is = is.tests ∙ ap (λ (t : Viewing). tests_at settings t.view) first

  pub kit_first : (settings : Settings) (u : Undoing) (s : Viewing) (boxes : List (Option P)) → s ≡ first_viewing u → IsKitOf tally test settings s.view boxes → IsKitOf tally test (tests_of test boxes) s.view boxes
  kit_first settings u s boxes first is = subst (λ (l : Settings). IsKitOf tally test l s.view boxes) (sym (tests_first settings u s boxes first is)) is

pub reply_now : (settings tests : Settings) (v : View) (line : List ℕ) → tests ≡ tests_at settings v → line_reply tests v line ≡ reply settings v line
unfolding reply
reply_now settings tests v line e = ap (λ t. line_reply t v line) e

pub cost_now : (settings tests : Settings) (k : ℕ) (v : View) (line : List ℕ) → tests ≡ tests_at settings v → cost_by tests k v line ≡ line_cost settings k v line
unfolding line_cost
cost_now settings tests k v line e = ap (λ t. cost_by t k v line) e
