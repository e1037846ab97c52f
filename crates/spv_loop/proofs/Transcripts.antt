-- The replies to two lists of lines, one after the other.
use Rattle.std.proofs.Common.{◌≡◌, ℕ, true, false, cond, ◌||◌, List, [], ◌∷◌, ◌++◌, refl, sym, ap, ◌∙◌, append_assoc, append-nil}
use Rattle.spv_session.specs.View.{View}
use Rattle.spv_session.specs.Reply.{is_quit}
use Rattle.spv_loop.specs.Transcript.{Reply, text_of, view_of, transcript, replies, view_after, has_quit}
use Rattle.spv_base.specs.Prefix.{IsPrefixOf, IsProperPrefixOf}

pub has_quit-append : (xs ys : List (List ℕ)) → has_quit (xs ++ ys) ≡ (has_quit xs || has_quit ys)
has_quit-append [] ys = refl
has_quit-append (x ∷ xs) ys =
    elim (is_quit x) as (λ q. (q || has_quit (xs ++ ys)) ≡ ((q || has_quit xs) || has_quit ys)) [
      | true ↦ refl
      | false ↦ has_quit-append xs ys
    ]

module _ (reply : Reply) where
  pub transcript-append : (v : View) (xs ys : List (List ℕ)) → transcript reply v (xs ++ ys) ≡ transcript reply v xs ++ cond (has_quit xs) [] (transcript reply (view_after reply v xs) ys)
  transcript-append v [] ys = refl
  transcript-append v (x ∷ xs) ys =
      elim (is_quit x) as (λ q. text_of reply v x ++ cond q [] (transcript reply (view_of reply v x) (xs ++ ys))
      ≡ (text_of reply v x ++ cond q [] (transcript reply (view_of reply v x) xs)) ++ cond (q || has_quit xs) [] (transcript reply (cond q (view_of reply v x) (view_after reply (view_of reply v x) xs)) ys)) [
        | true ↦ sym (append-nil (text_of reply v x ++ []))
        | false ↦ ap (λ l. text_of reply v x ++ l) (transcript-append (view_of reply v x) xs ys) ∙ sym (append_assoc (text_of reply v x) _ _)
      ]

  pub view_after-append : (v : View) (xs ys : List (List ℕ)) → view_after reply v (xs ++ ys) ≡ cond (has_quit xs) (view_after reply v xs) (view_after reply (view_after reply v xs) ys)
  view_after-append v [] ys = refl
  view_after-append v (x ∷ xs) ys =
      elim (is_quit x) as (λ q. cond q (view_of reply v x) (view_after reply (view_of reply v x) (xs ++ ys))
      ≡ cond (q || has_quit xs) (cond q (view_of reply v x) (view_after reply (view_of reply v x) xs)) (view_after reply (cond q (view_of reply v x) (view_after reply (view_of reply v x) xs)) ys)) [
        | true ↦ refl
        | false ↦ view_after-append (view_of reply v x) xs ys
      ]

  pub replies-append : (v : View) (xs ys : List (List ℕ)) → replies reply v (xs ++ ys) ≡ replies reply v xs ++ cond (has_quit xs) [] (replies reply (view_after reply v xs) ys)
  replies-append v [] ys = refl
  replies-append v (x ∷ xs) ys =
      elim (is_quit x) as (λ q. text_of reply v x ∷ cond q [] (replies reply (view_of reply v x) (xs ++ ys))
      ≡ (text_of reply v x ∷ cond q [] (replies reply (view_of reply v x) xs)) ++ cond (q || has_quit xs) [] (replies reply (cond q (view_of reply v x) (view_after reply (view_of reply v x) xs)) ys)) [
        | true ↦ refl
        | false ↦ ap (λ l. text_of reply v x ∷ l) (replies-append (view_of reply v x) xs ys)
      ]

  pub replies_go : (v : View) (xs ys : List (List ℕ)) → has_quit xs ≡ false → replies reply v (xs ++ ys) ≡ replies reply v xs ++ replies reply (view_after reply v xs) ys
  replies_go v xs ys h = replies-append v xs ys ∙ ap (λ b. replies reply v xs ++ cond b [] (replies reply (view_after reply v xs) ys)) h

  pub replies_quit : (v : View) (xs ys : List (List ℕ)) → has_quit xs ≡ true → replies reply v (xs ++ ys) ≡ replies reply v xs
  replies_quit v xs ys h = replies-append v xs ys ∙ ap (λ b. replies reply v xs ++ cond b [] (replies reply (view_after reply v xs) ys)) h ∙ append-nil (replies reply v xs)

  pub one_reply : (v : View) (x : List ℕ) → replies reply v (x ∷ []) ≡ text_of reply v x ∷ []
  one_reply v x = elim (is_quit x) as (λ q. text_of reply v x ∷ cond q [] [] ≡ text_of reply v x ∷ []) [ true ↦ refl | false ↦ refl ]

  -- no quit so far: what is due of both
  pub transcript_goes : (v : View) (xs ys : List (List ℕ)) → has_quit xs ≡ false → transcript reply v (xs ++ ys) ≡ transcript reply v xs ++ transcript reply (view_after reply v xs) ys
  transcript_goes v xs ys h = transcript-append v xs ys ∙ ap (λ b. transcript reply v xs ++ cond b [] (transcript reply (view_after reply v xs) ys)) h

  -- a quit ends what is due
  pub transcript_quits : (v : View) (xs ys : List (List ℕ)) → has_quit xs ≡ true → transcript reply v (xs ++ ys) ≡ transcript reply v xs
  transcript_quits v xs ys h = transcript-append v xs ys ∙ ap (λ b. transcript reply v xs ++ cond b [] (transcript reply (view_after reply v xs) ys)) h ∙ append-nil (transcript reply v xs)

  -- what is due of the first lines is a front of what is due of all
  pub transcript_front : (v : View) (xs ys : List (List ℕ)) → IsPrefixOf (transcript reply v xs) (transcript reply v (xs ++ ys))
  transcript_front v xs ys = (cond (has_quit xs) [] (transcript reply (view_after reply v xs) ys), sym (transcript-append v xs ys))

-- ---- fronts

pub prefix_refl : (xs : List ℕ) → IsPrefixOf xs xs
prefix_refl xs = ([], append-nil xs)

pub prefix_trans : (xs ys zs : List ℕ) → IsPrefixOf xs ys → IsPrefixOf ys zs → IsPrefixOf xs zs
prefix_trans xs ys zs p q = (p.0 ++ q.0, sym (append_assoc xs p.0 q.0) ∙ ap (λ l. l ++ q.0) p.1 ∙ q.1)

-- the same bytes in front of both
pub prefix_under : (front xs ys : List ℕ) → IsPrefixOf xs ys → IsPrefixOf (front ++ xs) (front ++ ys)
prefix_under front xs ys p = (p.0, append_assoc front xs p.0 ∙ ap (λ l. front ++ l) p.1)

pub proper_under : (front xs ys : List ℕ) → IsProperPrefixOf xs ys → IsProperPrefixOf (front ++ xs) (front ++ ys)
proper_under front xs ys p = (p.0, p.1, append_assoc front xs p.0 ∙ ap (λ l. front ++ l) p.2)

pub prefix_nil : (ys : List ℕ) → IsPrefixOf [] ys
prefix_nil ys = (ys, refl)

pub prefix_of_proper : (xs ys : List ℕ) → IsProperPrefixOf xs ys → IsPrefixOf xs ys
prefix_of_proper xs ys p = (p.0, p.2)
