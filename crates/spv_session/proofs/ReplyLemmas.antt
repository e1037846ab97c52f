-- The texts of all invocations, one after the other, a view of its own position, and the text of a refusal.
use Rattle.std.proofs.Common.{◌≡◌, ◌∙◌, ℕ, ◌+◌, List, [], ◌∷◌, ◌++◌, Bool, true, false, cond, Option, Some, None, Result, Ok, Err, OnErr, sym, ap, subst, refl, arith, add-one, append-nil}
use Rattle.std.specs.List.{flat_map, range_with_len}
use Rattle.std.specs.Option.{option_map_or}
use Rattle.std.specs.Prelude.{slice_get}
use Rattle.std.proofs.lemmas.List.{flat_map_more}
use Rattle.spv_base.specs.declared.causes.CmdRefusal.{CmdRefusal}
use Rattle.spv_base.specs.Prefix.{IsPrefixOf}
use Rattle.spv_cmd.specs.declared.command.Command.{Command}
use Rattle.spv_cmd.specs.declared.command.Command.TheVariants as command
use Rattle.spv_cmd.specs.Commands.{command_of}
use Rattle.spv_group.proofs.Exports.{range_more}
use Rattle.spv_dbg.specs.declared.frames.ShownFrame.{ShownFrame}
use Rattle.spv_session.specs.Reply.{Told, tells, refuses, Act, nothing, quits, shows, asks, goes, walks, orders, order_told, act_of, focus_finished, frame_told, frames_told, is_over, lines_told, locals_told, motion_reply, no_source_text, no_such_frame, registers_told, reply_by, refusal_by, line_refusal, told_refusal, told_reply}
use Rattle.spv_session.specs.Shown.{focus_frames}
use Rattle.spv_session.specs.Texts.{refusal_line}
use Rattle.spv_session.specs.View.{Settings, View, view_at}

pub text_more_from : {A : Type 0} (f : ℕ → List A) (before text : List A) (k n : ℕ) → text ≡ before ++ flat_map f (range_with_len k n) → text ++ f (k + n) ≡ before ++ flat_map f (range_with_len k (n + 1))
text_more_from f before text k n is = rw add-one (
    ap (λ l. l ++ f (k + n)) is
    ∙ flat_map_more f before (range_with_len k n) (k + n)
    ∙ ap (λ l. before ++ flat_map f l) (sym (range_more k n)))

pub text_more : {A : Type 0} (f : ℕ → List A) (before text : List A) (n : ℕ) → text ≡ before ++ flat_map f (range_with_len 0 n) → text ++ f n ≡ before ++ flat_map f (range_with_len 0 (n + 1))
text_more f before text n is = rw add-one (
    let same : 0 + n ≡ n = omega arith in
    ap (λ l. l ++ f n) is
    ∙ flat_map_more f before (range_with_len 0 n) n
    ∙ ap (λ l. before ++ flat_map f l) (ap (λ k. range_with_len 0 n ++ k ∷ []) (sym same) ∙ sym (range_more 0 n)))

-- a view is that of its own position
pub same_view : (v w : View) → v ≡ w → v ≡ view_at v.group.position w
same_view v w e = subst (λ (u : View). v ≡ view_at v.group.position u) e refl

-- ---- refusals

refused_told : (v : View) (told : Told) (code : ℕ) → told_refusal told ≡ Some code → (told_reply v told).0 ≡ refusal_line code
refused_told v (tells text w) code e = absurd (cc)
refused_told v (refuses n) code e = let same : n ≡ code = cc in ap refusal_line same

refused_walk : (b : Bool) (v : View) (moved : List ℕ × View) (code : ℕ) → cond b (Some focus_finished) None ≡ Some code → (cond b (told_reply v (refuses focus_finished)) moved).0 ≡ refusal_line code
refused_walk true v moved code e = let same : focus_finished ≡ code = cc in ap refusal_line same
refused_walk false v moved code e = absurd (cc)

-- what is refused has its refusal's line
refused_text : (tests : Settings) (v : View) (a : Act) (code : ℕ) → refusal_by tests v a ≡ Some code → (reply_by tests v a).0 ≡ refusal_line code
refused_text tests v nothing code e = absurd (cc)
refused_text tests v quits code e = absurd (cc)
refused_text tests v (shows told) code e = refused_told v (told v) code e
refused_text tests v (asks told) code e = refused_told v (told tests v) code e
refused_text tests v (orders a b) code e = refused_told v (order_told a b v) code e
refused_text tests v (goes motion) code e = absurd (cc)
refused_text tests v (walks motion) code e = refused_walk (is_over v) v (motion_reply tests v (motion v)) code e

-- a line that is refused, as the command that was read
refused_as : (tests : Settings) (v : View) (line : List ℕ) (it : Result Command CmdRefusal) (code : ℕ) → it ≡ command_of line → line_refusal tests v line ≡ Some code → refusal_by tests v (act_of it) ≡ Some code
unfolding line_refusal
refused_as tests v line it code is e = ap (λ (r : Result Command CmdRefusal). refusal_by tests v (act_of r)) is ∙ e

-- with its text
pub refused_with : (tests : Settings) (v : View) (line : List ℕ) (it : Result Command CmdRefusal) (code : ℕ) → it ≡ command_of line → line_refusal tests v line ≡ Some code
    → (refusal_by tests v (act_of it) ≡ Some code) × ((reply_by tests v (act_of it)).0 ≡ refusal_line code)
refused_with tests v line it code is e = let refused = refused_as tests v line it code is e in (refused, refused_text tests v (act_of it) code refused)

-- ---- want of memory

-- nothing was appended
pub front_none : {T E : Type 0} (r : Result T E) (old new due : List ℕ) → new ≡ old → OnErr r ((text : List ℕ) × (new ≡ old ++ text) × IsPrefixOf text due)
front_none (Ok x) old new due e = tt
front_none (Err x) old new due e = ([], e ∙ sym (append-nil old), (due, refl))

-- a text that was made from nothing is appended
pub appended : (old other text start due line new : List ℕ) → new ≡ old ++ other → other ≡ text → text ≡ start ++ due → start ≡ [] → due ≡ line → new ≡ old ++ line
appended old other text start due line new e f g h i = e ∙ ap (λ l. old ++ l) (f ∙ g ∙ ap (λ l. l ++ due) h ∙ i)

-- ---- what is told of frames leaves the view the same

module _ (tests : Settings) (v : View) where
  shown_keeps : (asked : Result Command CmdRefusal) (it : Command) → v ≡ (reply_by tests v (act_of (Ok it))).1 → asked ≡ Ok it → v ≡ (reply_by tests v (act_of asked)).1
  shown_keeps asked it keeps is = subst (λ x. v ≡ (reply_by tests v (act_of x)).1) (sym is) keeps

  all_keep : (frames : List ShownFrame) → v ≡ (told_reply v (frames_told v frames)).1
  all_keep [] = refl
  all_keep (f ∷ fs) = refl

  one_keeps : (told : ShownFrame → Told) → ((f : ShownFrame) → v ≡ (told_reply v (told f)).1) → (frames : List ShownFrame) (k : ℕ) → v ≡ (told_reply v (frame_told told frames k)).1
  one_keeps told keeps [] k = refl
  one_keeps told keeps (f ∷ fs) k = by_frame (slice_get (f ∷ fs) k)
    where
      by_frame : (o : Option ShownFrame) → v ≡ (told_reply v (option_map_or told o (refuses no_such_frame))).1
      by_frame None = refl
      by_frame (Some x) = keeps x

  text_keeps : (o : Option (List ℕ)) → v ≡ (told_reply v (option_map_or (λ text. tells text v) o (refuses no_source_text))).1
  text_keeps None = refl
  text_keeps (Some text) = refl

  pub bt_keeps : (asked : Result Command CmdRefusal) → asked ≡ Ok command.Bt → v ≡ (reply_by tests v (act_of asked)).1
  bt_keeps asked is = shown_keeps asked command.Bt (all_keep (focus_frames v)) is

  pub regs_keep : (asked : Result Command CmdRefusal) → asked ≡ Ok command.Regs → v ≡ (reply_by tests v (act_of asked)).1
  regs_keep asked is = shown_keeps asked command.Regs (one_keeps (registers_told v) (λ f. refl) (focus_frames v) v.frame) is

  pub list_keeps : (asked : Result Command CmdRefusal) → asked ≡ Ok command.List → v ≡ (reply_by tests v (act_of asked)).1
  list_keeps asked is = shown_keeps asked command.List (one_keeps (lines_told v) (λ f. text_keeps _) (focus_frames v) v.frame) is

  pub locals_keep : (asked : Result Command CmdRefusal) → asked ≡ Ok command.Locals → v ≡ (reply_by tests v (act_of asked)).1
  locals_keep asked is = shown_keeps asked command.Locals (one_keeps (locals_told v) (λ f. refl) (focus_frames v) v.frame) is
