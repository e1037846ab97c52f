-- Calls and returns leave a sound state.
use Rattle.std.proofs.Common.{◌≡◌, ◌≢◌, ◌⊎◌, ◌∙◌, inl, inr, ℕ, zero, suc, ◌-◌, ◌<◌, List, [], ◌∷◌, ◌++◌, Option, Some, None, length, length-append, length-set, slice_get, take, refl, sym, ap, subst, arith}
use Rattle.std.proofs.lemmas.List.{length-take-le}
use Rattle.std.proofs.lemmas.Option.{slice_get_within}
use Rattle.std.specs.List.{AllZip}
use Rattle.std.specs.Option.{option_map_or}
use Rattle.spv_base.specs.Entries.{change}
use Rattle.spv_base.specs.Variables.{Roots}
use Rattle.spv_base.specs.declared.instructions.Inst.{Inst}
use Rattle.spv_base.proofs.Exports.{length_change, changed_at, snoc_get}
use Rattle.spv_base.specs.declared.values.Root.TheVariants.{Local}
use Rattle.spv_actions.specs.Below.spv_types.specs.Types.{Types}
use Rattle.spv_actions.specs.Below.spv_mem.specs.Memory.{AreVariables, IsMemory, Levels}
use Rattle.spv_actions.specs.Below.spv_mem.proofs.Exports.{levels_kept}
use Rattle.spv_frame.specs.Frames.{Held as Frame}
use Rattle.spv_frame.specs.Stacks.{Stacked, top}
use Rattle.spv_statuses.specs.declared.invocations.Status.{Status}
use Rattle.spv_statuses.specs.declared.invocations.Status.TheVariants.{Ready, Finished}
use Rattle.spv_valid.specs.Acceptance.{Accepted, IsAccepted}
use Rattle.spv_valid.specs.Validity.{IsValid}
use Rattle.spv_sites.specs.Fits.{EnterFits}
use Rattle.spv_state.specs.Program.{Program}
use Rattle.spv_state.specs.Roots.{IsRooted}
use Rattle.spv_state.specs.Sound.{HasVariables, IsCallOf, IsSound, IsSoundFrame, IsSoundStack}
use Rattle.spv_state.specs.State.{State, frames_of, pop_frame, push_frame, set_status, top_of, with_top, without_last, without_locals, without_top}
use Rattle.spv_state.proofs.Exports.{change_none, set_is_change, ids_taken, rooted_more, rooted_stays}
use Rattle.spv_machine.proofs.Depths.{AreCalls, AreSoundFrames, frames_within}
use Rattle.spv_machine.proofs.SoundStacks.{AreSoundStacks, one_changed}
use Rattle.std.proofs.lemmas.Slice.Zip.{AllZip-long}

-- ---- lists with one more

zip_one : {A B : Type 0} (P : A → B → Type 0) (xs : List A) (ys : List B) (x : A) (y : B) → AllZip P xs ys → P x y → AllZip P (xs ++ x ∷ []) (ys ++ y ∷ [])
zip_one P [] [] x y all one = (one, tt)
zip_one P [] (b ∷ ys) x y all one = absurd all
zip_one P (a ∷ xs) [] x y all one = absurd all
zip_one P (a ∷ xs) (b ∷ ys) x y all one = (all.0, zip_one P xs ys x y all.1 one)

-- ---- and with one fewer

zip_take : {A B : Type 0} (P : A → B → Type 0) (n : ℕ) (xs : List A) (ys : List B) → AllZip P xs ys → AllZip P (take n xs) (take n ys)
zip_take P zero xs ys all = tt
zip_take P (suc n) [] [] all = tt
zip_take P (suc n) [] (b ∷ ys) all = absurd all
zip_take P (suc n) (a ∷ xs) [] all = absurd all
zip_take P (suc n) (a ∷ xs) (b ∷ ys) all = (all.0, zip_take P n xs ys all.1)

taken_at : {A : Type 0} (n k : ℕ) (xs : List A) (x : A) → slice_get (take n xs) k ≡ Some x → slice_get xs k ≡ Some x
taken_at zero k xs x h = absurd (cc)
taken_at (suc n) k [] x h = absurd (cc)
taken_at (suc n) zero (y ∷ xs) x h = h
taken_at (suc n) (suc k) (y ∷ xs) x h = taken_at n k xs x h

empty_top : (fs : List Frame) → top fs ≡ None → fs ≡ []
empty_top [] h = refl
empty_top (f ∷ fs) h =
    let place : length (f ∷ fs) - 1 ≡ length fs = omega arith in
    let none : slice_get (f ∷ fs) (length fs) ≡ None = subst (λ (n : ℕ). slice_get (f ∷ fs) n ≡ None) place h in
    let some = last_there f fs in
    let clash : None ≡ Some some.0 = sym none ∙ some.1 in
    absurd (cc)
  where
    last_there : (g : Frame) (gs : List Frame) → (x : Frame) × (slice_get (g ∷ gs) (length gs) ≡ Some x)
    last_there g [] = (g, refl)
    last_there g (h ∷ hs) = last_there h hs

-- ---- into a function

module _ (a : Accepted) (k : Stacked) (l : Levels) (s : IsSoundStack a Ready k l) (f own : Frame) (es : Roots) (is : top k.frames ≡ Some own) (sound : IsSoundFrame a f) (call : IsCallOf a own.pc f.plan.function) where
  some_frames : 0 < length k.frames
  some_frames = let within = slice_get_within k.frames (length k.frames - 1) own is in omega (arith, within)

  pushed_frames : AreSoundFrames a (k.frames ++ f ∷ [])
  pushed_frames depth g at =
      elim (snoc_get k.frames f g depth at) [
        | inl old ↦ s.frames depth g old
        | inr last ↦ subst (IsSoundFrame a) (sym last.1) sound
      ]

  pushed_calls : AreCalls a (k.frames ++ f ∷ [])
  pushed_calls depth g h at above = by_place (snoc_get k.frames f g depth at) (snoc_get k.frames f h (suc depth) above)
    where
      by_place : (slice_get k.frames depth ≡ Some g) ⊎ ((depth ≡ length k.frames) × (g ≡ f)) → (slice_get k.frames (suc depth) ≡ Some h) ⊎ ((suc depth ≡ length k.frames) × (h ≡ f))
          → IsCallOf a g.pc h.plan.function
      by_place (inl old) (inl next) = s.calls depth g h old next
      by_place (inl old) (inr last) =
          let place : depth ≡ length k.frames - 1 = let e = last.0 in omega arith in
          let here : slice_get k.frames (length k.frames - 1) ≡ Some g = subst (λ (n : ℕ). slice_get k.frames n ≡ Some g) place old in
          let same : own ≡ g = let top_is = is in cc in
          subst (λ (x : Frame). IsCallOf a g.pc x.plan.function) (sym last.1) (subst (λ (x : Frame). IsCallOf a x.pc f.plan.function) same call)
      by_place (inr last) (inl next) = let within = slice_get_within k.frames (suc depth) h next in let e = last.0 in absurd (omega arith)
      by_place (inr last) (inr other) = let e = last.0 in let o = other.0 in absurd (omega arith)

  pushed_first : (g : Frame) → slice_get (k.frames ++ f ∷ []) 0 ≡ Some g → g.plan.function ≡ a.entry
  pushed_first g at =
      elim (snoc_get k.frames f g 0 at) [
        | inl old ↦ s.first g old
        | inr last ↦ let some = some_frames in let e = last.0 in absurd (omega arith)
      ]

  -- there is room for a frame more
  pub has_room : ∥ IsAccepted a ∥₁ → ∥ IsValid a ∥₁ → length k.frames < k.room
  has_room accepted valid =
      let within = frames_within a (k.frames ++ f ∷ []) accepted valid pushed_frames pushed_calls pushed_first in
      let count = length-append k.frames (f ∷ []) in
      let room = s.room in
      omega arith

  pub has_levels : ∥ IsAccepted a ∥₁ → ∥ IsValid a ∥₁ → length l.list < l.room
  has_levels accepted valid =
      let room = has_room accepted valid in
      let same = AllZip-long (HasVariables a) k.frames l.list s.variables in
      let one = s.room in
      let other = s.levels in
      omega arith

  -- what is kept in the frames is there, and in that of the function
  pushed_rooted : IsRooted a (k.frames ++ f ∷ []) (length k.frames) f → (depth : ℕ) (g : Frame) → slice_get (k.frames ++ f ∷ []) depth ≡ Some g → IsRooted a (k.frames ++ f ∷ []) depth g
  pushed_rooted passed depth g at = by_place (snoc_get k.frames f g depth at)
    where
      by_place : (slice_get k.frames depth ≡ Some g) ⊎ ((depth ≡ length k.frames) × (g ≡ f)) → IsRooted a (k.frames ++ f ∷ []) depth g
      by_place (inl old) = rooted_more a k.frames (f ∷ []) depth depth g (omega arith) (s.rooted depth g old)
      by_place (inr last) = subst (IsRooted a (k.frames ++ f ∷ []) depth) (sym last.1) (subst (λ (n : ℕ). IsRooted a (k.frames ++ f ∷ []) n f) (sym last.0) passed)

  pub pushed_stack : HasVariables a f es → IsRooted a (k.frames ++ f ∷ []) (length k.frames) f → IsSoundStack a Ready (with_top f k) (record l { list = l.list ++ es ∷ [] })
  pushed_stack variables passed = record {
    room = s.room;
    levels = s.levels;
    finished = (λ e. absurd (cc), λ e. let count = length-append k.frames (f ∷ []) in let none = ap length e in absurd (omega arith));
    frames = pushed_frames;
    variables = zip_one (HasVariables a) k.frames l.list f es s.variables variables;
    first = pushed_first;
    calls = pushed_calls;
    waits = λ g at. tt;
    rooted = pushed_rooted passed;
  }

-- ---- out of a function

without_same : (a : Accepted) (k : Stacked) (l : Levels) → AllZip (HasVariables a) k.frames l.list → AllZip (HasVariables a) (without_last k.frames) (without_last l.list)
without_same a k l all =
    subst (λ (n : ℕ). AllZip (HasVariables a) (without_last k.frames) (take (n - 1) l.list)) (sym (AllZip-long (HasVariables a) k.frames l.list all))
    (zip_take (HasVariables a) (length k.frames - 1) k.frames l.list all)

popped_rooted : (a : Accepted) (t : Status) (k : Stacked) (l : Levels) → IsSoundStack a t k l → (depth : ℕ) (f : Frame) → slice_get (without_last k.frames) depth ≡ Some f → IsRooted a (without_last k.frames) depth f
popped_rooted a t k l s depth f at =
    let within = slice_get_within (without_last k.frames) depth f at in
    let count : length (without_last k.frames) ≡ length k.frames - 1 = length-take-le (length k.frames - 1) k.frames (omega arith) in
    rooted_stays a k.frames (without_last k.frames) depth f (λ n le. ids_taken a (length k.frames - 1) n k.frames (omega arith)) (s.rooted depth f (taken_at (length k.frames - 1) depth k.frames f at))

pub popped_stack : (a : Accepted) (k : Stacked) (l : Levels) → IsSoundStack a Ready k l → without_last k.frames ≢ [] → IsSoundStack a Ready (without_top k) (without_locals l)
popped_stack a k l s some = record {
  room = s.room;
  levels = s.levels;
  finished = (λ e. absurd (cc), λ e. absurd (some e));
  frames = λ depth f at. s.frames depth f (taken_at (length k.frames - 1) depth k.frames f at);
  variables = without_same a k l s.variables;
  first = λ f at. s.first f (taken_at (length k.frames - 1) 0 k.frames f at);
  calls = λ depth f g at above. s.calls depth f g (taken_at (length k.frames - 1) depth k.frames f at) (taken_at (length k.frames - 1) (suc depth) k.frames g above);
  waits = λ f at. tt;
  rooted = popped_rooted a Ready k l s;
}

pub finished_stack : (a : Accepted) (k : Stacked) (l : Levels) → IsSoundStack a Ready k l → without_last k.frames ≡ [] → IsSoundStack a Finished (without_top k) (without_locals l)
finished_stack a k l s none = record {
  room = s.room;
  levels = s.levels;
  finished = (λ e. none, λ e. refl);
  frames = λ depth f at. s.frames depth f (taken_at (length k.frames - 1) depth k.frames f at);
  variables = without_same a k l s.variables;
  first = λ f at. s.first f (taken_at (length k.frames - 1) 0 k.frames f at);
  calls = λ depth f g at above. s.calls depth f g (taken_at (length k.frames - 1) depth k.frames f at) (taken_at (length k.frames - 1) (suc depth) k.frames g above);
  waits = λ f at. tt;
  rooted = popped_rooted a Ready k l s;
}

-- the frame below the top one, which stands at the call
pub record Below (a : Accepted) (called : ℕ) (f : Frame) : Type 0 where
  pub sound : IsSoundFrame a f
  pub call : IsCallOf a f.pc called

pub below : (a : Accepted) (k : Stacked) (l : Levels) (own f : Frame) → IsSoundStack a Ready k l → top k.frames ≡ Some own → top (without_last k.frames) ≡ Some f → Below a own.plan.function f
below a k l own f s is here =
    let fs = k.frames in
    let count : length (without_last fs) ≡ length fs - 1 = length-take-le (length fs - 1) fs (omega arith) in
    let within = slice_get_within (without_last fs) (length (without_last fs) - 1) f here in
    let at : slice_get fs (length (without_last fs) - 1) ≡ Some f = taken_at (length fs - 1) (length (without_last fs) - 1) fs f here in
    let place : suc (length (without_last fs) - 1) ≡ length fs - 1 = omega arith in
    let above : slice_get fs (suc (length (without_last fs) - 1)) ≡ Some own = subst (λ (n : ℕ). slice_get fs n ≡ Some own) (sym place) is in
    record { sound = s.frames (length (without_last fs) - 1) f at; call = s.calls (length (without_last fs) - 1) f own at above }

-- ---- states

pub popped_top : (s : State) (i : ℕ) (k : Stacked) → slice_get s.stacks i ≡ Some k → top_of (pop_frame i s) i ≡ top (without_last k.frames)
popped_top s i k at = ap (λ (o : Option Stacked). top (option_map_or (λ (x : Stacked). x.frames) o [])) (changed_at i without_top s.stacks k at)

module _ (p : Program) (s : State) (i : ℕ) (sound : IsSound p s) (ready : slice_get s.statuses.list i ≡ Some Ready) where
  -- a frame that is entered
  pub entered_sound : (d : Inst) (own f : Frame) (es : Roots) → top_of s i ≡ Some own → d.word ≡ own.pc → EnterFits p.accepted d f es → IsRooted p.accepted (frames_of s i ++ f ∷ []) (length (frames_of s i)) f → IsSound p (push_frame i f es s)
  entered_sound d own f es is here fits passed = record {
    plans = sound.plans;
    types = sound.types;
    targets = sound.targets;
    memory = levels_kept s.memory i (λ (l : Levels). record l { list = l.list ++ es ∷ [] }) more sound.memory;
    words = sound.words;
    stacks = length_change i (with_top f) s.stacks ∙ sound.stacks;
    levels = length_change i (λ (l : Levels). record l { list = l.list ++ es ∷ [] }) s.memory.locals ∙ sound.levels;
    privates = sound.privates;
    shared = sound.shared;
    own = sound.own;
    each = subst (λ (ts : List Status). AreSoundStacks p.accepted ts (change i (with_top f) s.stacks) (change i (λ (l : Levels). record l { list = l.list ++ es ∷ [] }) s.memory.locals)) (change_none i s.statuses.list)
        (one_changed p.accepted i (λ t. t) (with_top f) (λ (l : Levels). record l { list = l.list ++ es ∷ [] }) s.statuses.list s.stacks s.memory.locals sound.each
        (λ t k l status stack level kept. pushed t k l (let own_status = ready in cc) stack kept));
  } where
    more : (l : Levels) → IsMemory s.memory → slice_get s.memory.locals i ≡ Some l → (depth : ℕ) (xs : Roots) → slice_get (l.list ++ es ∷ []) depth ≡ Some xs → AreVariables s.memory.types s.memory.targets xs
    more l was level depth xs at =
        elim (snoc_get l.list es xs depth at) [
          | inl old ↦ was.variables i (Local depth 0) xs (rw level old)
          | inr last ↦ subst (AreVariables s.memory.types s.memory.targets) (sym last.1)
              (subst (λ (ts : Types). AreVariables ts s.memory.targets es) (sym sound.types) (subst (λ (targets : List (ℕ × ℕ)). AreVariables p.accepted.types targets es) (sym sound.targets) fits.values))
        ]

    pushed : (t : Status) (k : Stacked) (l : Levels) → t ≡ Ready → slice_get s.stacks i ≡ Some k → IsSoundStack p.accepted t k l → IsSoundStack p.accepted t (with_top f k) (record l { list = l.list ++ es ∷ [] })
    pushed t k l same stack kept =
        let a = p.accepted in
        let mine : IsSoundStack a Ready k l = subst (λ (u : Status). IsSoundStack a u k l) same kept in
        let top_is : top k.frames ≡ Some own = sym (ap (λ (o : Option Stacked). top (option_map_or (λ (x : Stacked). x.frames) o [])) stack) ∙ is in
        let call : IsCallOf a own.pc f.plan.function = subst (λ (n : ℕ). IsCallOf a n f.plan.function) here fits.call in
        subst (λ (u : Status). IsSoundStack a u (with_top f k) (record l { list = l.list ++ es ∷ [] })) (sym same) (pushed_stack a k l mine f own es top_is fits.sound call fits.locals
        (subst (λ (fs : List Frame). IsRooted a (fs ++ f ∷ []) (length fs) f) (ap (λ (o : Option Stacked). option_map_or (λ (x : Stacked). x.frames) o []) stack) passed))

  -- the variables that stay are as they were
  fewer_sound : ∥ IsMemory (pop_frame i s).memory ∥₁
  fewer_sound = levels_kept s.memory i without_locals (λ l was level depth xs at. was.variables i (Local depth 0) xs (rw level (taken_at (length l.list - 1) depth l.list xs at))) sound.memory

  -- a frame that is left, where one stays
  pub popped_sound : (f : Frame) → top_of (pop_frame i s) i ≡ Some f → IsSound p (pop_frame i s)
  popped_sound f is = record {
    plans = sound.plans;
    types = sound.types;
    targets = sound.targets;
    memory = fewer_sound;
    words = sound.words;
    stacks = length_change i without_top s.stacks ∙ sound.stacks;
    levels = length_change i without_locals s.memory.locals ∙ sound.levels;
    privates = sound.privates;
    shared = sound.shared;
    own = sound.own;
    each = subst (λ (ts : List Status). AreSoundStacks p.accepted ts (change i without_top s.stacks) (change i without_locals s.memory.locals)) (change_none i s.statuses.list)
        (one_changed p.accepted i (λ t. t) without_top without_locals s.statuses.list s.stacks s.memory.locals sound.each
        (λ t k l status stack level kept. popped t k l (let own_status = ready in cc) stack kept));
  } where
    popped : (t : Status) (k : Stacked) (l : Levels) → t ≡ Ready → slice_get s.stacks i ≡ Some k → IsSoundStack p.accepted t k l → IsSoundStack p.accepted t (without_top k) (without_locals l)
    popped t k l same stack kept =
        let a = p.accepted in
        let mine : IsSoundStack a Ready k l = subst (λ (u : Status). IsSoundStack a u k l) same kept in
        let top_is : top (without_last k.frames) ≡ Some f = sym (popped_top s i k stack) ∙ is in
        subst (λ (u : Status). IsSoundStack a u (without_top k) (without_locals l)) (sym same)
        (popped_stack a k l mine (λ none. let gone : top [] ≡ Some f = subst (λ (fs : List Frame). top fs ≡ Some f) none top_is in absurd (cc)))

  -- and where none does
  pub finished_sound : top_of (pop_frame i s) i ≡ None → IsSound p (set_status i Finished (pop_frame i s))
  finished_sound is = record {
    plans = sound.plans;
    types = sound.types;
    targets = sound.targets;
    memory = fewer_sound;
    words = sound.words;
    stacks = length_change i without_top s.stacks ∙ sound.stacks ∙ sym (length-set s.statuses.list i Finished);
    levels = length_change i without_locals s.memory.locals ∙ sound.levels ∙ sym (length-set s.statuses.list i Finished);
    privates = sound.privates ∙ sym (length-set s.statuses.list i Finished);
    shared = sound.shared;
    own = sound.own;
    each = subst (λ (ts : List Status). AreSoundStacks p.accepted ts (change i without_top s.stacks) (change i without_locals s.memory.locals)) (sym (set_is_change i Finished s.statuses.list))
        (one_changed p.accepted i (λ _. Finished) without_top without_locals s.statuses.list s.stacks s.memory.locals sound.each
        (λ t k l status stack level kept.
        let same : t ≡ Ready = let own_status = ready in cc in
        let none : without_last k.frames ≡ [] = empty_top (without_last k.frames) (sym (popped_top s i k stack) ∙ is) in
        finished_stack p.accepted k l (subst (λ (u : Status). IsSoundStack p.accepted u k l) same kept) none));
  }
