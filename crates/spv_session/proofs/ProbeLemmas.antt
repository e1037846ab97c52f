-- Probes of a kit: what is told of one, and a kit with one less.
use Rattle.std.proofs.Common.{◌≡◌, ◌∙◌, ℕ, ◌-◌, ◌==◌, Bool, true, false, cond, List, [], ◌∷◌, fold, get_or, map, set, Option, Some, None, Result, Ok, Err, OnOk, refl, sym, ap, subst}
use Rattle.std.specs.Prelude.{option_map, is_some}
use Rattle.std.specs.Option.{option_map_or}
use Rattle.std.proofs.Math.ListN.{get_or-map}
use Rattle.std.proofs.lemmas.List.{map-set}
use Rattle.std.proofs.lemmas.List.Sums.{fold-append}
use Rattle.spv_base.specs.declared.happenings.Happening.{Happening}
use Rattle.spv_group.specs.Group.{Held as Group, entries_in, group_at}
use Rattle.spv_group.proofs.Exports.{between_none}
use Rattle.spv_hits.specs.Halts.{told_before}
use Rattle.spv_hits.specs.Happenings.{lined}
use Rattle.spv_probe.specs.Kits.{place, tests_of, Follows}
use Rattle.spv_session.specs.View.{IsKitOf, Settings, View, without_probe, without_test}

-- ---- what is told of a probe

-- by its count, where it is there
pub told_of : {X : Type 0} (count : X → ℕ) (line : ℕ → List ℕ) (x : Option X) (n : ℕ) → Some n ≡ option_map count x → option_map_or (λ y. line (count y)) x [] ≡ line n
told_of count line (Some y) n e = let same : n ≡ count y = cc in ap line (sym same)
told_of count line None n e = absurd (cc)

-- and nothing elsewhere
pub none_told : {X : Type 0} (count : X → ℕ) (line : ℕ → List ℕ) (x : Option X) → None ≡ option_map count x → option_map_or (λ y. line (count y)) x [] ≡ []
none_told count line (Some y) e = absurd (cc)
none_told count line None e = refl

-- ---- which are there

pub some_mapped : {X Y : Type 0} (f : X → Y) (x : Option X) → is_some (option_map f x) ≡ is_some x
some_mapped f (Some y) = refl
some_mapped f None = refl

there_with : {P : Type 0} (test : P → Happening → Bool) (boxes : List (Option P)) (n : ℕ) (b : Bool) → is_some (cond b None (get_or (tests_of test boxes) n None)) ≡ is_some (cond b None (get_or boxes n None))
there_with test boxes n true = refl
there_with test boxes n false = ap is_some (get_or-map (option_map test) boxes n None) ∙ some_mapped test (get_or boxes n None)

-- a number has a test where it has a box
pub is_there : {P : Type 0} (test : P → Happening → Bool) (boxes : List (Option P)) (k : ℕ) → is_some (place (tests_of test boxes) k) ≡ is_some (place boxes k)
is_there test boxes k = there_with test boxes (k - 1) (k == 0)

-- ---- a kit before the first command

mapped : {P : Type 0} (test : P → Happening → Bool) (probes : List P) → tests_of test (map Some probes) ≡ map (λ p. Some (test p)) probes
mapped test [] = refl
mapped test (p ∷ ps) = ap (λ ts. Some (test p) ∷ ts) (mapped test ps)

-- nothing was told before the start
none_before : (g : Group) → g.position ≡ 0 → told_before g ≡ []
none_before g e = ap (λ n. told_before (group_at n g)) e ∙ ap (map (lined g.program.accepted)) (between_none g.program (entries_in g) 0)

pub kit_opened : {P : Type 0} (tally : P → ℕ) (test : P → Happening → Bool) (probes : List P) (v : View) (boxes : List (Option P)) → v.group.position ≡ 0 → v.dropped ≡ [] → boxes ≡ map Some probes
    → Follows tally test (map (λ p. Some (test p)) probes) [] boxes → IsKitOf tally test (map (λ p. Some (test p)) probes) v boxes
kit_opened tally test probes v boxes first none is follows =
    let tests : tests_of test boxes ≡ map (λ p. Some (test p)) probes = ap (tests_of test) is ∙ mapped test probes in
    record {
      tests = tests ∙ ap (λ ks. fold without_test (map (λ p. Some (test p)) probes) ks) (sym none);
      counted = subst (λ ts. Follows tally test ts (told_before v.group) boxes) (sym tests) (subst (λ es. Follows tally test (map (λ p. Some (test p)) probes) es boxes) (sym (none_before v.group first)) follows);
    }

-- ---- a kit with one less

module _ {P : Type 0} (tally : P → ℕ) (test : P → Happening → Bool) (settings : Settings) (v : View) (old new : List (Option P)) (k : ℕ) where
  pub kit_without : IsKitOf tally test settings v old → new ≡ set old (k - 1) None
      → (Follows tally test (tests_of test old) (told_before v.group) old → Follows tally test (set (tests_of test old) (k - 1) None) (told_before v.group) new)
      → IsKitOf tally test settings (without_probe k v) new
  kit_without kit is follows =
      let tests : tests_of test new ≡ set (tests_of test old) (k - 1) None = ap (tests_of test) is ∙ map-set (option_map test) old (k - 1) None in
      record {
        tests = tests ∙ ap (λ ts. set ts (k - 1) None) kit.tests ∙ sym (fold-append without_test settings v.dropped (k ∷ []));
        counted = subst (λ ts. Follows tally test ts (told_before v.group) new) (sym tests) (follows kit.counted);
      }

-- what holds of the answer `Ok` where a number is there
pub ok_there : {T E : Type 0} (r : Result T E) (b : Bool) (x : T) (e : E) (A : Type 0) → b ≡ true → r ≡ cond b (Ok x) (Err e) → OnOk r A → A
ok_there r b x e A there is ok = subst (λ s. OnOk s A) (is ∙ ap (λ c. cond c (Ok x) (Err e)) there) ok

-- the same kit of a view whose group and dropped probes are the same
pub kit_same : {P : Type 0} (tally : P → ℕ) (test : P → Happening → Bool) (settings : Settings) (v w : View) (boxes : List (Option P)) → w.group ≡ v.group → w.dropped ≡ v.dropped → IsKitOf tally test settings v boxes → IsKitOf tally test settings w boxes
kit_same tally test settings v w boxes e f kit = record {
  tests = kit.tests ∙ ap (λ ks. fold without_test settings ks) (sym f);
  counted = subst (λ g. Follows tally test (tests_of test boxes) (told_before g) boxes) (sym e) kit.counted;
}

-- a kit that moved with the group
pub kit_moved : {P : Type 0} (tally : P → ℕ) (test : P → Happening → Bool) (settings : Settings) (v w : View) (old new : List (Option P)) → w.dropped ≡ v.dropped → tests_of test new ≡ tests_of test old → Follows tally test (tests_of test new) (told_before w.group) new
    → IsKitOf tally test settings v old → IsKitOf tally test settings w new
kit_moved tally test settings v w old new e f follows kit = record {
  tests = f ∙ kit.tests ∙ ap (λ ks. fold without_test settings ks) (sym e);
  counted = follows;
}

-- the same kit, held elsewhere
pub follows_held : {P : Type 0} (tally : P → ℕ) (test : P → Happening → Bool) (events : List Happening) (old new : List (Option P)) → new ≡ old → Follows tally test (tests_of test old) events old → Follows tally test (tests_of test new) events new
follows_held tally test events old new e follows = subst (λ bs. Follows tally test (tests_of test bs) events bs) (sym e) follows

-- a kit that follows a group follows it where it is seen as another that is the same
pub follows_seen : {P : Type 0} (tally : P → ℕ) (test : P → Happening → Bool) (boxes : List (Option P)) (g h : Group) → h ≡ g → Follows tally test (tests_of test boxes) (told_before g) boxes → Follows tally test (tests_of test boxes) (told_before h) boxes
follows_seen tally test boxes g h e follows = subst (λ (x : Group). Follows tally test (tests_of test boxes) (told_before x) boxes) (sym e) follows
