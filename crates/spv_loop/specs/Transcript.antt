-- The replies to lines, to their end or to `quit`. How a line is answered, and the steps that it takes, are parameters.
use Rattle.std.specs.Prelude.{ℕ, ◌+◌, ◌≤◌, max, if◌then◌else◌, Bool, List, [], ◌∷◌, ◌++◌}
use Rattle.std.specs.List.{list_any}
use Rattle.spv_group.specs.Group.{entries_in}
use Rattle.spv_group.specs.History.{window}
use Rattle.spv_session.specs.View.{View, Viewing}
use Rattle.spv_session.specs.Reply.{is_quit}
use Rattle.spv_session.specs.Costs.{reached}

-- the text of the reply to a line at a view, and the view after it
abbrev pub Reply : Type 0
Reply = View → List ℕ → List ℕ × View

-- the most steps that a line takes at a view, where events are kept from a position on
abbrev pub Cost : Type 0
Cost = (kept : ℕ) → View → List ℕ → ℕ

-- one of the lines is a `quit`
abbrev pub has_quit : List (List ℕ) → Bool
has_quit lines = list_any is_quit lines

module _ (reply : Reply) where
  -- the text of a reply, and the view after it
  abbrev pub text_of : View → List ℕ → List ℕ
  text_of view line = (reply view line).0

  abbrev pub view_of : View → List ℕ → View
  view_of view line = (reply view line).1

  -- the texts of the replies to the lines, to their end or to the first `quit`
  abbrev pub transcript : View → List (List ℕ) → List ℕ
  transcript view [] = []
  transcript view (line ∷ lines) = text_of view line ++ (if is_quit line then [] else transcript (view_of view line) lines)

  -- the texts one by one
  abbrev pub replies : View → List (List ℕ) → List (List ℕ)
  replies view [] = []
  replies view (line ∷ lines) = text_of view line ∷ (if is_quit line then [] else replies (view_of view line) lines)

  -- the view after them
  abbrev pub view_after : View → List (List ℕ) → View
  view_after view [] = view
  view_after view (line ∷ lines) = if is_quit line then view_of view line else view_after (view_of view line) lines

  -- ---- the steps of the replies

  -- the highest of the positions that the views have, and of those to which `order` goes, to the end of the lines or to the first `quit`
  abbrev pub highest : View → List (List ℕ) → ℕ
  highest view [] = view.group.position
  highest view (line ∷ lines) = max (max view.group.position (reached view line)) (if is_quit line then (view_of view line).group.position else highest (view_of view line) lines)

  -- The least position to which a motion back takes no step, at each of the views: what is kept at the first, or the window of the highest
  -- position.
  abbrev pub reach : Viewing → List (List ℕ) → ℕ
  reach s lines = max s.kept (window s.limit s.view.group.program (entries_in s.view.group) (highest s.view lines))

  -- after the replies to some lines a motion back takes no step to where it took none before
  abbrev pub Reaches : Viewing → Viewing → List (List ℕ) → Type 0
  Reaches s t lines = (later : List (List ℕ)) → reach t later ≤ reach s (lines ++ later)

  module _ (cost_of : Cost) where
    -- the most steps that the replies to the lines take, to their end or to the first `quit`, where events are kept from a position on
    abbrev pub transcript_cost : (kept : ℕ) → View → List (List ℕ) → ℕ
    transcript_cost kept view [] = 0
    transcript_cost kept view (line ∷ lines) = cost_of kept view line + (if is_quit line then 0 else transcript_cost kept (view_of view line) lines)

    -- The steps that were counted are at most those of the replies to the lines, by any position to which events are kept.
    abbrev pub Spends : Viewing → List (List ℕ) → (before after : ℕ) → Type 0
    Spends s lines before after = (kept : ℕ) → reach s lines ≤ kept → after ≤ before + transcript_cost kept s.view lines
