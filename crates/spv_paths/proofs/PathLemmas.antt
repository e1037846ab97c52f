-- The parts of a path, one after the other, where numbers of bits stop at the greatest of 64 bits.
use Rattle.std.proofs.Common.{◌≡◌, ◌∙◌, ℕ, ◌+◌, ◌^◌, ◌<◌, ◌≤◌, Bool, List, [], ◌∷◌, length, drop, get_or, Option, Some, None, refl, sym, ap, subst, arith}
use Rattle.std.specs.Prelude.{Ok, option_map}
use Rattle.std.specs.Option.{ok_or, option_and_then, option_map_or}
use Rattle.std.proofs.Math.ListN.{drop_of_length-le}
use Rattle.std.proofs.lemmas.List.{drop_more}
use Rattle.spv_base.specs.Saturation.{saturated}
use Rattle.spv_base.specs.declared.causes.CmdRefusal.{CmdRefusal}
use Rattle.spv_base.proofs.Exports.{unsaturated}
use Rattle.spv_cmd.specs.declared.command.PathPart.{PathPart}
use Rattle.spv_cmd.specs.declared.command.PathPart.TheVariants.{Member, Index}
use Rattle.spv_dbg.specs.Tables.{Tables}
use Rattle.spv_paths.specs.Kept.{saturated_answer, saturated_portion}
use Rattle.spv_paths.specs.Paths.{is_local, named_at, next, reached}
use Rattle.spv_paths.specs.Portions.{Portion, end_of}
use Rattle.spv_paths.proofs.PortionLemmas.{element_same, end_of_same, member_same, same_portions}

again : (n : ℕ) → saturated (saturated n) ≡ saturated n
again n = omega arith

module _ (t : Tables) (bits : ℕ) (small : bits < 2 ^ 64) where
  next_same : (p : Portion) (x : PathPart) → option_map saturated_portion (next t bits (saturated_portion p) x) ≡ option_map saturated_portion (next t bits p x)
  next_same p (Member name) = member_same t bits small p name
  next_same p (Index k) = element_same t bits small p k

  reached_same : (xs : List PathPart) (p : Portion) → option_map saturated_portion (reached t bits (saturated_portion p) xs) ≡ option_map saturated_portion (reached t bits p xs)
  reached_same [] p = ap (λ (n : ℕ). Some (record { start = n; part = p.part; last = p.last })) (again p.start)
  reached_same (x ∷ xs) p = by (λ (q : Portion). reached_same xs q) (next t bits (saturated_portion p) x) (next t bits p x) (next_same p x)
    where
      by : ((q : Portion) → option_map saturated_portion (reached t bits (saturated_portion q) xs) ≡ option_map saturated_portion (reached t bits q xs)) → (a b : Option Portion) → option_map saturated_portion a ≡ option_map saturated_portion b
          → option_map saturated_portion (option_and_then (λ (q : Portion). reached t bits q xs) a) ≡ option_map saturated_portion (option_and_then (λ (q : Portion). reached t bits q xs) b)
      by same None None e = refl
      by same None (Some y) e = absurd (cc)
      by same (Some a) None e = absurd (cc)
      by same (Some a) (Some b) e = sym (same a) ∙ ap (λ (q : Portion). option_map saturated_portion (reached t bits q xs)) (same_portions a b e) ∙ same b

  -- one part more
  pub reached_next : (parts : List PathPart) (i : ℕ) (part : PathPart) (p q : Portion) (result : Option Portion) → i < length parts → part ≡ get_or parts i part → Some q ≡ option_map saturated_portion (next t bits p part)
      → option_map saturated_portion (reached t bits p (drop i parts)) ≡ result → (q.start < 2 ^ 64) × (option_map saturated_portion (reached t bits q (drop (i + 1) parts)) ≡ result)
  reached_next parts i part p q result lt is there e = by (next t bits p part) there f
    where
      rest : List PathPart
      rest = drop (i + 1) parts

      f : option_map saturated_portion (option_and_then (λ (x : Portion). reached t bits x rest) (next t bits p part)) ≡ result
      f = subst (λ (xs : List PathPart). option_map saturated_portion (reached t bits p xs) ≡ result) (drop_more parts i part lt ∙ ap (λ (x : PathPart). x ∷ rest) (sym is)) e

      by : (o : Option Portion) → Some q ≡ option_map saturated_portion o → option_map saturated_portion (option_and_then (λ (x : Portion). reached t bits x rest) o) ≡ result
          → (q.start < 2 ^ 64) × (option_map saturated_portion (reached t bits q rest) ≡ result)
      by None g h = absurd (cc)
      by (Some x) g h =
          let same : q ≡ saturated_portion x = ap (λ (o : Option Portion). option_map_or (λ (y : Portion). y) o q) g in
          let start : q.start ≡ saturated x.start = ap (λ (y : Portion). y.start) same in
          (rw start (stops x.start), ap (λ (y : Portion). option_map saturated_portion (reached t bits y rest)) same ∙ reached_same rest x ∙ h)
        where
          stops : (n : ℕ) → saturated n < 2 ^ 64
          stops n = omega arith

  -- what is named at a portion
  pub named_there : (id : ℕ) (o : Option Portion) (p : Portion) (end : ℕ) (local : Bool) (refusal : CmdRefusal) → Some p ≡ option_map saturated_portion o → end ≡ saturated (end_of t bits p) → local ≡ is_local t id
      → Ok (record { variable = id; is_local = local; part = p.part; start = p.start; end = end }) ≡ saturated_answer (ok_or (option_map (named_at t bits id) o) refusal)
  named_there id None p end local refusal e ends is = absurd (cc)
  named_there id (Some x) p end local refusal e ends is =
      let same : p ≡ saturated_portion x = ap (λ (o : Option Portion). option_map_or (λ (y : Portion). y) o p) e in
      let all : end ≡ saturated (end_of t bits x) = ends ∙ ap (λ (y : Portion). saturated (end_of t bits y)) same ∙ end_of_same t bits small x in
      rw (same, all, is) refl

-- all parts
pub reached_all : (t : Tables) (bits : ℕ) (parts : List PathPart) (i : ℕ) (p : Portion) (result : Option Portion) → length parts ≤ i → p.start < 2 ^ 64 → option_map saturated_portion (reached t bits p (drop i parts)) ≡ result → Some p ≡ result
reached_all t bits parts i p result le small e =
    let none : drop i parts ≡ [] = drop_of_length-le parts le in
    let f : Some (saturated_portion p) ≡ result = rw none at e in
    ap (λ (n : ℕ). Some (record { start = n; part = p.part; last = p.last })) (sym (unsaturated p.start small)) ∙ f
