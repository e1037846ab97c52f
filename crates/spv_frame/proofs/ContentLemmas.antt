-- Registers that change together, and what they held before.
use Rattle.std.proofs.Common.{◌≡◌, ◌≢◌, ◌∙◌, ℕ, zero, suc, ◌≤◌, List, [], ◌∷◌, ◌++◌, Option, Some, None, map, length, refl, sym, ap, subst, arith, take, drop, unwrap_or, slice_get, slice_set}
use Rattle.std.specs.List.{AllByRecursion, AllZip}
use Rattle.spv_base.specs.Entries.{reads, writes}
use Rattle.spv_base.specs.Variables.{Registers}
use Rattle.spv_base.specs.declared.values.Value.{Value}
use Rattle.spv_base.proofs.Exports.{writes_back}
use Rattle.std.proofs.lemmas.List.{drop_all, take_all}
use Rattle.spv_frame.specs.declared.contents.Content.{Content}
use Rattle.spv_frame.specs.declared.contents.Source.{Source}
use Rattle.spv_frame.specs.declared.slots.Slot.{Slot}
use Rattle.spv_frame.specs.Contents.{AllSuit, Differ, Suits, cells, content, held, puts}
use Rattle.spv_frame.specs.Frames.{Held}
use Rattle.spv_frame.specs.Phis.{IsPhi, IsSource, cells_from, given}
use Rattle.spv_frame.specs.Registers.{Rooms}

pub reads_other : {X : Type 0} (j k : ℕ) (v : X) (es : List (ℕ × X)) → j ≢ k → reads j (writes k v es) ≡ reads j es
reads_other j k v [] h = refl
reads_other j k v (e ∷ es) h = grind (arith, reads_other j k v es h)

pub writes_swap : {X : Type 0} (j k : ℕ) (v w : X) (es : List (ℕ × X)) → j ≢ k → writes j v (writes k w es) ≡ writes k w (writes j v es)
writes_swap j k v w [] h = refl
writes_swap j k v w (e ∷ es) h = grind (arith, writes_swap j k v w es h)

-- ---- one register after the other

-- what other registers hold stays
pub held_kept : (s : Slot) (v : Option Value) (f g : Held) (ts : List Slot) → g.values ≡ writes s.id v f.values → AllByRecursion (λ (t : Slot). t.id ≢ s.id) ts → map (held g) ts ≡ map (held f) ts
held_kept s v f g [] e h = refl
held_kept s v f g (t ∷ ts) e h =
    let one : held g t ≡ held f t = ap (λ (es : Registers). unwrap_or (reads t.id es) None) e ∙ ap (λ (o : Option (Option Value)). unwrap_or o None) (reads_other t.id s.id v f.values h.0) in
    ap (λ (o : Option Value). o ∷ map (held g) ts) one ∙ ap (λ (os : List (Option Value)). held f t ∷ os) (held_kept s v f g ts e h.1)

-- the first k of the registers are exchanged: f is the frame before, g the frame now, os what was given, cs what is handed back so far
pub record Going (ss : List Slot) (os cs : List Content) (f g : Held) (k : ℕ) : Type 0 where
  pub same : g ≡ record f { values = g.values }
  pub left : puts (drop k ss) (map content (drop k cs)) g.values ≡ puts ss (map content os) f.values
  pub handed : map content (take k cs) ++ map (held g) (drop k ss) ≡ map (held f) ss
  pub suit : AllSuit f.plan.values ss cs

pub as_many : (rs : Rooms) (ss : List Slot) (cs : List Content) → AllSuit rs ss cs → length cs ≡ length ss
as_many rs [] [] h = refl
as_many rs [] (c ∷ cs) h = absurd h
as_many rs (s ∷ ss) [] h = absurd h
as_many rs (s ∷ ss) (c ∷ cs) h = ap suc (as_many rs ss cs h.1)

pub suits_at : (rs : Rooms) (ss : List Slot) (cs : List Content) (k : ℕ) (s : Slot) (c : Content) → AllSuit rs ss cs → slice_get ss k ≡ Some s → slice_get cs k ≡ Some c → Suits rs s c
suits_at rs [] cs k s c h e g = cc
suits_at rs (t ∷ ss) [] k s c h e g = absurd h
suits_at rs (t ∷ ss) (d ∷ cs) zero s c h e g =
    let one : t ≡ s = cc in
    let other : d ≡ c = cc in
    subst (λ (x : Content). Suits rs s x) other (subst (λ (x : Slot). Suits rs x d) one h.0)
suits_at rs (t ∷ ss) (d ∷ cs) (suc k) s c h e g = suits_at rs ss cs k s c h.1 e g

suit_set : (rs : Rooms) (ss : List Slot) (cs : List Content) (k : ℕ) (s : Slot) (c : Content) → AllSuit rs ss cs → slice_get ss k ≡ Some s → Suits rs s c → AllSuit rs ss (slice_set cs k c)
suit_set rs [] cs k s c h e g = cc
suit_set rs (t ∷ ss) [] k s c h e g = absurd h
suit_set rs (t ∷ ss) (d ∷ cs) zero s c h e g = let one : s ≡ t = cc in (subst (λ (x : Slot). Suits rs x c) one g, h.1)
suit_set rs (t ∷ ss) (d ∷ cs) (suc k) s c h e g = (h.0, suit_set rs ss cs k s c h.1 e g)

left_step : (ss : List Slot) (cs : List Content) (k : ℕ) (s : Slot) (c d : Content) (es : Registers) → slice_get ss k ≡ Some s → slice_get cs k ≡ Some c
    → puts (drop (suc k) ss) (map content (drop (suc k) (slice_set cs k d))) (writes s.id (content c) es) ≡ puts (drop k ss) (map content (drop k cs)) es
left_step [] cs k s c d es e g = cc
left_step (t ∷ ss) [] k s c d es e g = cc
left_step (t ∷ ss) (b ∷ cs) zero s c d es e g =
    let one : s ≡ t = cc in
    let other : c ≡ b = cc in
    ap (λ (x : Slot). puts ss (map content cs) (writes x.id (content c) es)) one ∙ ap (λ (x : Content). puts ss (map content cs) (writes t.id (content x) es)) other
left_step (t ∷ ss) (b ∷ cs) (suc k) s c d es e g = left_step ss cs k s c d es e g

handed_step : (ss : List Slot) (cs : List Content) (k : ℕ) (s : Slot) (v : Option Value) (c d : Content) (f g : Held) → Differ ss → slice_get ss k ≡ Some s → slice_get cs k ≡ Some c
    → g.values ≡ writes s.id v f.values → content d ≡ held f s
    → map content (take (suc k) (slice_set cs k d)) ++ map (held g) (drop (suc k) ss) ≡ map content (take k cs) ++ map (held f) (drop k ss)
handed_step [] cs k s v c d f g differ e h made was = cc
handed_step (t ∷ ss) [] k s v c d f g differ e h made was = cc
handed_step (t ∷ ss) (b ∷ cs) zero s v c d f g differ e h made was =
    let one : s ≡ t = cc in
    let here : content d ≡ held f t = was ∙ ap (held f) one in
    let rest : map (held g) ss ≡ map (held f) ss = held_kept t v f g ss (made ∙ ap (λ (x : Slot). writes x.id v f.values) one) differ.0 in
    ap (λ (o : Option Value). o ∷ map (held g) ss) here ∙ ap (λ (os : List (Option Value)). held f t ∷ os) rest
handed_step (t ∷ ss) (b ∷ cs) (suc k) s v c d f g differ e h made was = ap (λ (os : List (Option Value)). content b ∷ os) (handed_step ss cs k s v c d f g differ.1 e h made was)

-- one register more
pub going_on : (ss : List Slot) (os cs : List Content) (f g g' : Held) (k : ℕ) (s : Slot) (c d : Content) → Differ ss → Going ss os cs f g k → slice_get ss k ≡ Some s → slice_get cs k ≡ Some c
    → g' ≡ record g { values = writes s.id (content c) g.values } → content d ≡ held g s → Suits g.plan.values s d → Going ss os (slice_set cs k d) f g' (suc k)
going_on ss os cs f g g' k s c d differ going at given after was suits =
    let made : g'.values ≡ writes s.id (content c) g.values = ap (λ (x : Held). x.values) after in
    let plans : g.plan.values ≡ f.plan.values = ap (λ (x : Held). x.plan.values) going.same in
    record {
      same = after ∙ ap (λ (x : Held). record x { values = writes s.id (content c) g.values }) going.same ∙ ap (λ (x : Registers). record f { values = x }) (sym made);
      left =
          ap (λ (x : Registers). puts (drop (suc k) ss) (map content (drop (suc k) (slice_set cs k d))) x) made
          ∙ left_step ss cs k s c d g.values at given
          ∙ going.left;
      handed = handed_step ss cs k s (content c) c d g g' differ at given made was ∙ going.handed;
      suit = suit_set f.plan.values ss cs k s d going.suit at (subst (λ (rs : Rooms). Suits rs s d) plans suits);
    }

nothing_more : {X : Type 0} (xs : List X) → xs ++ [] ≡ xs
nothing_more [] = refl
nothing_more {X} (x ∷ xs) = ap (λ (ys : List X). x ∷ ys) (nothing_more xs)

-- all registers are exchanged
pub record Done (ss : List Slot) (os cs : List Content) (f g : Held) : Type 0 where
  pub after : g ≡ record f { values = puts ss (map content os) f.values }
  pub handed : map content cs ≡ map (held f) ss
  pub suit : AllSuit f.plan.values ss cs

pub done : (ss : List Slot) (os cs : List Content) (f g : Held) (k : ℕ) → Going ss os cs f g k → length ss ≤ k → Done ss os cs f g
done ss os cs f g k going all =
    let many : length cs ≡ length ss = as_many f.plan.values ss cs going.suit in
    let slots : drop k ss ≡ [] = drop_all k ss all in
    let taken : take k cs ≡ cs = (let short : length cs ≤ k = omega arith in take_all k cs short) in
    let values : g.values ≡ puts ss (map content os) f.values = ap (λ (xs : List Slot). puts xs (map content (drop k cs)) g.values) (sym slots) ∙ going.left in
    record {
      after = going.same ∙ ap (λ (x : Registers). record f { values = x }) values;
      handed =
          sym (nothing_more (map content cs))
          ∙ ap (λ (xs : List Content). map content xs ++ []) (sym taken)
          ∙ ap (λ (xs : List Slot). map content (take k cs) ++ map (held g) xs) (sym slots)
          ∙ going.handed;
      suit = going.suit;
    }

-- ---- put back

puts_write : (ss : List Slot) (vs : List (Option Value)) (s : Slot) (v : Option Value) (es : Registers) → AllByRecursion (λ (t : Slot). t.id ≢ s.id) ss → writes s.id v (puts ss vs es) ≡ puts ss vs (writes s.id v es)
puts_write [] vs s v es h = refl
puts_write (t ∷ ss) [] s v es h = refl
puts_write (t ∷ ss) (w ∷ vs) s v es h =
    let differ : s.id ≢ t.id = λ e. h.0 (sym e) in
    puts_write ss vs s v (writes t.id w es) h.1 ∙ ap (puts ss vs) (writes_swap s.id t.id v w es differ)

put_again : (k : ℕ) (v : Option Value) (es : Registers) → writes k (unwrap_or (reads k es) None) (writes k v es) ≡ es
put_again k v es = writes_back k v (unwrap_or (reads k es) None) es (twice (reads k es))
  where
    twice : (o : Option (Option Value)) → unwrap_or o (unwrap_or o None) ≡ unwrap_or o None
    twice None = refl
    twice (Some x) = refl

puts_back_in : (ss : List Slot) (vs : List (Option Value)) (f : Held) (es : Registers) → Differ ss → es ≡ f.values → length vs ≡ length ss → puts ss (map (held f) ss) (puts ss vs es) ≡ es
puts_back_in [] vs f es differ e h = refl
puts_back_in (s ∷ ss) [] f es differ e h = absurd (omega arith)
puts_back_in (s ∷ ss) (v ∷ vs) f es differ e h =
    let many : length vs ≡ length ss = omega arith in
    let back : writes s.id (held f s) (writes s.id v es) ≡ es = ap (λ (x : Registers). writes s.id (unwrap_or (reads s.id x) None) (writes s.id v es)) (sym e) ∙ put_again s.id v es in
    ap (puts ss (map (held f) ss)) (puts_write ss vs s (held f s) (writes s.id v es) differ.0 ∙ ap (puts ss vs) back) ∙ puts_back_in ss vs f es differ.1 e many

-- what was held, put back
pub puts_back : (ss : List Slot) (vs olds : List (Option Value)) (f : Held) → Differ ss → length vs ≡ length ss → olds ≡ map (held f) ss → puts ss olds (puts ss vs f.values) ≡ f.values
puts_back ss vs olds f differ many were = ap (λ (x : List (Option Value)). puts ss x (puts ss vs f.values)) were ∙ puts_back_in ss vs f f.values differ refl many

-- ---- sources

pub sources_of : (rs : Rooms) (ss : List Slot) (xs : List Source) → AllZip (IsPhi rs) ss xs → AllByRecursion (IsSource rs) xs
sources_of rs [] [] h = tt
sources_of rs [] (x ∷ xs) h = absurd h
sources_of rs (s ∷ ss) [] h = absurd h
sources_of rs (s ∷ ss) (x ∷ xs) h = (h.0.1, sources_of rs ss xs h.1)

pub phis_suit : (rs : Rooms) (ss : List Slot) (xs : List Source) (cs : List Content) → AllZip (IsPhi rs) ss xs → map cells cs ≡ map cells_from xs → AllSuit rs ss cs
phis_suit rs [] [] [] h e = tt
phis_suit rs [] [] (c ∷ cs) h e = cc
phis_suit rs [] (x ∷ xs) cs h e = absurd h
phis_suit rs (s ∷ ss) [] cs h e = absurd h
phis_suit rs (s ∷ ss) (x ∷ xs) [] h e = cc
phis_suit rs (s ∷ ss) (x ∷ xs) (c ∷ cs) h e =
    let one : cells c ≡ cells_from x = cc in
    let rest : map cells cs ≡ map cells_from xs = cc in
    ((h.0.0, one ∙ h.0.2), phis_suit rs ss xs cs h.1 rest)

pub as_many_phis : (rs : Rooms) (f : Held) (ss : List Slot) (xs : List Source) → AllZip (IsPhi rs) ss xs → length (map (given f) xs) ≡ length ss
as_many_phis rs f [] [] h = refl
as_many_phis rs f [] (x ∷ xs) h = absurd h
as_many_phis rs f (s ∷ ss) [] h = absurd h
as_many_phis rs f (s ∷ ss) (x ∷ xs) h = ap suc (as_many_phis rs f ss xs h.1)
