-- One step of a list of bytes, and what a stop leaves.
use Rattle.std.proofs.Common.{◌≡◌, ℕ, Bool, true, false, cond, ◌||◌, List, [], ◌∷◌, ◌++◌, refl, sym, ap, ◌∙◌, append_assoc, length, ◌<◌, subst, Option, Result, Ok, Err, arith}
use Rattle.std.specs.Result.{IfErr, IsErrAnd}
use Rattle.std.specs.Io.KnownBytes.{Appends}
use Rattle.std.proofs.KnownBytes.{Appends-trans}
use Rattle.spv_session.specs.declared.session.Next.{Next}
use Rattle.spv_session.specs.declared.session.Next.TheVariants.{Go, Quit}
use Rattle.spv_loop.specs.declared.status.Stop.{Stop}
use Rattle.spv_loop.specs.declared.status.Stop.TheVariants.{WriteFault, NoMemory}
use Rattle.spv_session.specs.View.{View}
use Rattle.spv_base.specs.Prefix.{IsPrefixOf}
use Rattle.spv_loop.specs.Transcript.{Reply, transcript, view_after, has_quit}
use Rattle.spv_loop.specs.Stops.{next_of, StopSays}
use Rattle.spv_loop.proofs.Transcripts.{transcript_goes, view_after-append, has_quit-append, transcript_front, prefix_trans, prefix_under, proper_under}

-- what a `?` that hands on an error of its own type returns
pub hands_on : {T E : Type 0} (r : Result T E) (x : E) (Q : E → Type 0) → IsErrAnd r (λ e. e ≡ x) → Q x → IfErr r Q
hands_on (Ok y) x Q h q = tt
hands_on (Err e) x Q h q = subst Q (sym h) q

pub goes : (b : Bool) (next : Next) → next ≡ Go → next ≡ next_of b → b ≡ false
goes true next h e = absurd (cc)
goes false next h e = refl

pub quits : (b : Bool) (next : Next) → next ≡ Quit → next ≡ next_of b → b ≡ true
quits true next h e = refl
quits false next h e = absurd (cc)

pub quit_more : (xs ys : List (List ℕ)) → has_quit xs ≡ false → has_quit (xs ++ ys) ≡ has_quit ys
quit_more xs ys h = has_quit-append xs ys ∙ ap (λ b. b || has_quit ys) h

-- ---- what a stop leaves, of more text

pub stop_more : (stop : Stop) (put due all : List ℕ) → StopSays stop put due → IsPrefixOf due all → StopSays stop put all
stop_more WriteFault put due all s p = (s.0 ++ p.0, longer s.0 p.0 s.1, sym (append_assoc put s.0 p.0) ∙ ap (λ l. l ++ p.0) s.2 ∙ p.1)
  where
    longer : (a b : List ℕ) → 0 < length a → 0 < length (a ++ b)
    longer [] b h = absurd (omega arith)
    longer (x ∷ xs) b h = omega arith
stop_more NoMemory put due all s p = prefix_trans put due all s p

pub stop_under : (stop : Stop) (front put due : List ℕ) → StopSays stop put due → StopSays stop (front ++ put) (front ++ due)
stop_under WriteFault front put due s = proper_under front put due s
stop_under NoMemory front put due s = prefix_under front put due s

module _ (reply : Reply) where
  -- ---- what is due of lines where the first ones hold no quit

  pub due_more : (front all : List ℕ) (v : View) (xs ys : List (List ℕ)) → has_quit xs ≡ false → front ++ transcript reply v (xs ++ ys) ≡ all
      → (front ++ transcript reply v xs) ++ transcript reply (view_after reply v xs) ys ≡ all
  due_more front all v xs ys h e = append_assoc front (transcript reply v xs) _ ∙ ap (λ l. front ++ l) (sym (transcript_goes reply v xs ys h)) ∙ e

  pub view_more : (v : View) (xs ys : List (List ℕ)) → has_quit xs ≡ false → view_after reply v (xs ++ ys) ≡ view_after reply (view_after reply v xs) ys
  view_more v xs ys h = view_after-append reply v xs ys ∙ ap (λ b. cond b (view_after reply v xs) (view_after reply (view_after reply v xs) ys)) h

  -- a stop in the first lines of those that are due
  pub stop_first : (stop : Stop) (a b c : Option (List ℕ)) (front all : List ℕ) (v : View) (xs ys : List (List ℕ)) → Appends a b front → front ++ transcript reply v (xs ++ ys) ≡ all
      → (put : List ℕ) × Appends b c put × StopSays stop put (transcript reply v xs) → (put : List ℕ) × Appends a c put × StopSays stop put all
  stop_first stop a b c front all v xs ys p e s = (
    front ++ s.0,
    Appends-trans a b c front s.0 p s.1,
    subst (StopSays stop (front ++ s.0)) e (stop_under stop front s.0 (transcript reply v (xs ++ ys)) (stop_more stop s.0 (transcript reply v xs) (transcript reply v (xs ++ ys)) s.2 (transcript_front reply v xs ys))),
  )
