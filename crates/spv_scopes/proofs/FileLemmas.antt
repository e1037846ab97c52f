-- Files by their names: the numbers of files as they are met.
use Rattle.std.proofs.Common.{◌≡◌, ◌⊎◌, ◌∙◌, ℕ, true, false, cond, List, [], ◌∷◌, ◌++◌, length, slice_get, Some, None, refl, sym, ap, inl, inr}
use Rattle.std.specs.Prelude.{◌↔◌}
use Rattle.std.specs.Cmp.Lexicographic.{bytes_decides}
use Rattle.std.specs.Str.{bytes_eq}
use Rattle.std.proofs.lemmas.Bool.{cases_Bool}
use Rattle.spv_base.proofs.Exports.{get_snoc, last_get, snoc_get}
use Rattle.spv_dbg.proofs.Exports.{Names}
use Rattle.spv_dbg.specs.Names.{number_under}

-- each name stands under its number, and no other does
abbrev pub AreNumbered : Names → List (List ℕ) → Type 0
AreNumbered names files = (n : ℕ) (name : List ℕ) → (number_under names name ≡ Some n) ↔ (slice_get files n ≡ Some name)

-- a new name
pub numbered_more : (old new : Names) (files : List (List ℕ)) (name : List ℕ) → AreNumbered old files → number_under old name ≡ None
    → ((cs : List ℕ) → number_under new cs ≡ cond (bytes_eq name cs) (Some (length files)) (number_under old cs)) → AreNumbered new (files ++ name ∷ [])
numbered_more old new files name h none put n other = by_name (cases_Bool (bytes_eq name other))
  where
    again : slice_get files n ≡ Some name → ⊥
    again at = let e : None ≡ Some n = sym none ∙ (h n name).1 at in cc

    first : name ≡ other → slice_get (files ++ name ∷ []) n ≡ Some other → Some (length files) ≡ Some n
    first same at = elim (snoc_get files name other n at) [
      | inl there ↦ absurd (again (there ∙ ap (λ l. Some l) (sym same)))
      | inr last ↦ ap (λ k. Some k) (sym last.0)
    ]

    front : name ≡ other → Some (length files) ≡ Some n → slice_get (files ++ name ∷ []) n ≡ Some other
    front same e = let k : length files ≡ n = cc in rw (← k, ← same) (last_get files name)

    later : bytes_eq name other ≡ false → slice_get (files ++ name ∷ []) n ≡ Some other → number_under old other ≡ Some n
    later differ at = elim (snoc_get files name other n at) [
      | inl there ↦ (h n other).1 there
      | inr last ↦ let e : bytes_eq name other ≡ true = (bytes_decides name other).1 (sym last.1) in absurd (cc)
    ]

    by_name : (bytes_eq name other ≡ true) ⊎ (bytes_eq name other ≡ false) → (number_under new other ≡ Some n) ↔ (slice_get (files ++ name ∷ []) n ≡ Some other)
    by_name (inl y) =
        let same : name ≡ other = (bytes_decides name other).0 y in
        let is : number_under new other ≡ Some (length files) = put other ∙ rw y refl in
        (λ e. front same (sym is ∙ e), λ at. is ∙ first same at)
    by_name (inr d) =
        let is : number_under new other ≡ number_under old other = put other ∙ rw d refl in
        (λ e. get_snoc files name other n ((h n other).0 (sym is ∙ e)), λ at. is ∙ later d at)
