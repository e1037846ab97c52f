-- How replies are offered, one after the other, and where a call stops.
use Rattle.std.proofs.Common.{◌≡◌, ℕ, ◌<◌, ◌≤◌, arith, true, false, List, [], ◌∷◌, ◌++◌, length, refl, sym, ap, ◌∙◌, append_assoc, append-nil, subst, Result, Ok, Err}
use Rattle.std.specs.Prelude.{IsErrAnd, MatchResult}
use Rattle.std.proofs.lemmas.List.{drop_all}
use Rattle.spv_base.specs.Offers.{IsOffered, AreOffered, Begin, Offers}
use Rattle.spv_session.specs.View.{View}
use Rattle.spv_loop.specs.Lines.{last_line}
use Rattle.spv_loop.specs.Offers.{OffersAll, OffersFirst}
use Rattle.spv_loop.specs.Transcript.{Reply, text_of, replies, view_after, has_quit}
use Rattle.spv_loop.proofs.Transcripts.{replies-append, replies_go, replies_quit, one_reply}

-- a piece can be offered
pub some_offers : (piece : List ℕ) → (offers : List (List ℕ)) × IsOffered piece offers
some_offers [] = ([], refl)
some_offers (x ∷ xs) =
    let some : 0 < length (x ∷ xs) = omega arith in
    let all : length (x ∷ xs) ≤ length (x ∷ xs) = omega arith in
    ((x ∷ xs) ∷ [], (refl, (length (x ∷ xs), some, all, drop_all (length (x ∷ xs)) (x ∷ xs) all)))

-- a stop before anything is offered
pub offers_none : {T E : Type 0} (piece : List ℕ) (before : List (List ℕ)) (r : Result T E) (e : E) → IsErrAnd r (λ x. x ≡ e) → Offers piece before before r
offers_none piece before (Ok x) e is = absurd is
offers_none piece before (Err x) e is = ([], sym (append-nil before), some_offers piece)

-- a stop where it is offered
pub offers_some : {T E : Type 0} (offered piece : List ℕ) (before now : List (List ℕ)) (r : Result T E) (e : E) → offered ≡ piece → IsErrAnd r (λ x. x ≡ e)
    → (offers : List (List ℕ)) × (now ≡ before ++ offers) × Begin (IsOffered offered) offers → Offers piece before now r
offers_some offered piece before now (Ok x) e same is h = absurd is
offers_some offered piece before now (Err x) e same is h = (h.0, h.1, subst (λ p. Begin (IsOffered p) h.0) same h.2)

pub offers_whole : (offered piece : List ℕ) (before now : List (List ℕ)) → offered ≡ piece → (offers : List (List ℕ)) × (now ≡ before ++ offers) × IsOffered offered offers
    → (offers : List (List ℕ)) × (now ≡ before ++ offers) × IsOffered piece offers
offers_whole offered piece before now same h = (h.0, h.1, subst (λ p. IsOffered p h.0) same h.2)

-- what a `?` that hands on an error of its own type returns
pub stops : {T E : Type 0} (r : Result T E) (e : E) (pieces before now : List (List ℕ)) → IsErrAnd r (λ x. x ≡ e) → OffersFirst pieces before now
    → MatchResult r (λ _. OffersAll pieces before now) (λ _. OffersFirst pieces before now)
stops (Ok x) e pieces before now is h = absurd is
stops (Err x) e pieces before now is h = h

-- ---- several pieces

all_offers : (pieces : List (List ℕ)) → (offers : List (List ℕ)) × AreOffered pieces offers
all_offers [] = ([], refl)
all_offers (piece ∷ pieces) =
    let first = some_offers piece in
    let rest = all_offers pieces in
    (first.0 ++ rest.0, (first.0, rest.0, refl, first.1, rest.1))

offered_both : (xs ys a b : List (List ℕ)) → AreOffered xs a → AreOffered ys b → AreOffered (xs ++ ys) (a ++ b)
offered_both [] ys a b h k = subst (λ l. AreOffered ys (l ++ b)) (sym h) k
offered_both (x ∷ xs) ys a b h k = (h.0, h.1 ++ b, ap (λ l. l ++ b) h.2 ∙ append_assoc h.0 h.1 b, h.3, offered_both xs ys h.1 b h.4 k)

-- none of them yet
pub first_none : (pieces before : List (List ℕ)) → OffersFirst pieces before before
first_none pieces before = ([], sym (append-nil before), all_offers pieces)

pub first_of_all : (pieces before now : List (List ℕ)) → OffersAll pieces before now → OffersFirst pieces before now
first_of_all pieces before now h = (h.0, h.1, ([], subst (AreOffered pieces) (sym (append-nil h.0)) h.2))

-- more pieces are to follow
pub first_more : (xs ys before now : List (List ℕ)) → OffersFirst xs before now → OffersFirst (xs ++ ys) before now
first_more xs ys before now h =
    let rest = all_offers ys in
    (h.0, h.1, (h.2.0 ++ rest.0, subst (AreOffered (xs ++ ys)) (append_assoc h.0 h.2.0 rest.0) (offered_both xs ys (h.0 ++ h.2.0) rest.0 h.2.1 rest.1)))

made_both : (before between now a b : List (List ℕ)) → between ≡ before ++ a → now ≡ between ++ b → now ≡ before ++ (a ++ b)
made_both before between now a b p q = q ∙ ap (λ l. l ++ b) p ∙ append_assoc before a b

pub all_then_all : (xs ys before between now : List (List ℕ)) → OffersAll xs before between → OffersAll ys between now → OffersAll (xs ++ ys) before now
all_then_all xs ys before between now h k = (h.0 ++ k.0, made_both before between now h.0 k.0 h.1 k.1, offered_both xs ys h.0 k.0 h.2 k.2)

pub all_then_first : (xs ys before between now : List (List ℕ)) → OffersAll xs before between → OffersFirst ys between now → OffersFirst (xs ++ ys) before now
all_then_first xs ys before between now h k = (
  h.0 ++ k.0,
  made_both before between now h.0 k.0 h.1 k.1,
  (k.2.0, subst (AreOffered (xs ++ ys)) (sym (append_assoc h.0 k.0 k.2.0)) (offered_both xs ys h.0 (k.0 ++ k.2.0) h.2 k.2.1)),
)

-- ---- lines of which some are left

-- some of all lines are left to answer: what will be offered then is what is due of all
pub record IsOffering (reply : Reply) (start at : View) (all rest : List (List ℕ)) (before now : List (List ℕ)) : Type 0 where
  pub whole : (later : List (List ℕ)) → OffersAll (replies reply at rest) now later → OffersAll (replies reply start all) before later
  pub first : (later : List (List ℕ)) → OffersFirst (replies reply at rest) now later → OffersFirst (replies reply start all) before later

module _ (reply : Reply) where
  -- ---- replies

  pub one_all : (v : View) (line : List ℕ) (before now : List (List ℕ)) → (offers : List (List ℕ)) × (now ≡ before ++ offers) × IsOffered (text_of reply v line) offers
      → OffersAll (replies reply v (line ∷ [])) before now
  one_all v line before now h =
      subst (λ r. OffersAll r before now) (sym (one_reply reply v line)) (h.0, h.1, (h.0, [], sym (append-nil h.0), h.2, refl))

  pub one_first : (v : View) (line : List ℕ) (before now : List (List ℕ)) → (offers : List (List ℕ)) × (now ≡ before ++ offers) × Begin (IsOffered (text_of reply v line)) offers
      → OffersFirst (replies reply v (line ∷ [])) before now
  one_first v line before now h =
      subst (λ r. OffersFirst r before now) (sym (one_reply reply v line)) (h.0, h.1, (h.2.0, (h.0 ++ h.2.0, [], sym (append-nil (h.0 ++ h.2.0)), h.2.1, refl)))

  pub last_first : (v : View) (line : List ℕ) (before now : List (List ℕ)) → 0 < length line → (offers : List (List ℕ)) × (now ≡ before ++ offers) × Begin (IsOffered (text_of reply v line)) offers
      → OffersFirst (replies reply v (last_line line)) before now
  last_first v [] before now some h = absurd (omega arith)
  last_first v (b ∷ bs) before now some h = one_first v (b ∷ bs) before now h

  pub last_all : (v : View) (line : List ℕ) (before now : List (List ℕ)) → 0 < length line → (offers : List (List ℕ)) × (now ≡ before ++ offers) × IsOffered (text_of reply v line) offers
      → OffersAll (replies reply v (last_line line)) before now
  last_all v [] before now some h = absurd (omega arith)
  last_all v (b ∷ bs) before now some h = one_all v (b ∷ bs) before now h

  pub none_all : (v : View) (lines before : List (List ℕ)) → lines ≡ [] → OffersAll (replies reply v lines) before before
  none_all v lines before none = subst (λ l. OffersAll (replies reply v l) before before) (sym none) ([], sym (append-nil before), refl)

  -- the replies to the first lines
  pub first_lines : (v : View) (xs ys : List (List ℕ)) (before now : List (List ℕ)) → OffersFirst (replies reply v xs) before now → OffersFirst (replies reply v (xs ++ ys)) before now
  first_lines v xs ys before now h = subst (λ r. OffersFirst r before now) (sym (replies-append reply v xs ys)) (first_more (replies reply v xs) _ before now h)

  -- lines without a `quit`, and more after them
  pub lines_all : (v w : View) (xs ys : List (List ℕ)) (before between now : List (List ℕ)) → has_quit xs ≡ false → w ≡ view_after reply v xs
      → OffersAll (replies reply v xs) before between → OffersAll (replies reply w ys) between now → OffersAll (replies reply v (xs ++ ys)) before now
  lines_all v w xs ys before between now go view h k =
      subst (λ r. OffersAll r before now) (sym (replies_go reply v xs ys go))
      (all_then_all (replies reply v xs) (replies reply (view_after reply v xs) ys) before between now h (subst (λ u. OffersAll (replies reply u ys) between now) view k))

  pub lines_first : (v w : View) (xs ys : List (List ℕ)) (before between now : List (List ℕ)) → has_quit xs ≡ false → w ≡ view_after reply v xs
      → OffersAll (replies reply v xs) before between → OffersFirst (replies reply w ys) between now → OffersFirst (replies reply v (xs ++ ys)) before now
  lines_first v w xs ys before between now go view h k =
      subst (λ r. OffersFirst r before now) (sym (replies_go reply v xs ys go))
      (all_then_first (replies reply v xs) (replies reply (view_after reply v xs) ys) before between now h (subst (λ u. OffersFirst (replies reply u ys) between now) view k))

  -- a `quit` ends them
  pub quit_all : (v : View) (xs ys : List (List ℕ)) (before now : List (List ℕ)) → has_quit xs ≡ true → OffersAll (replies reply v xs) before now → OffersAll (replies reply v (xs ++ ys)) before now
  quit_all v xs ys before now quit h = subst (λ r. OffersAll r before now) (sym (replies_quit reply v xs ys quit)) h

  -- ---- the same of lines of which some are left

  pub offering_start : (v : View) (lines before : List (List ℕ)) → IsOffering reply v v lines lines before before
  offering_start v lines before = record { whole = λ later h. h; first = λ later h. h }

  pub offering_more : (start at next : View) (all rest xs ys : List (List ℕ)) (before now after : List (List ℕ)) → IsOffering reply start at all rest before now → rest ≡ xs ++ ys → has_quit xs ≡ false
      → next ≡ view_after reply at xs → OffersAll (replies reply at xs) now after → IsOffering reply start next all ys before after
  offering_more start at next all rest xs ys before now after is e go view h = record {
    whole = λ later k. is.whole later (subst (λ r. OffersAll (replies reply at r) now later) (sym e) (lines_all at next xs ys now after later go view h k));
    first = λ later k. is.first later (subst (λ r. OffersFirst (replies reply at r) now later) (sym e) (lines_first at next xs ys now after later go view h k));
  }

  pub offering_stops : (start at : View) (all rest xs ys : List (List ℕ)) (before now after : List (List ℕ)) → IsOffering reply start at all rest before now → rest ≡ xs ++ ys
      → OffersFirst (replies reply at xs) now after → OffersFirst (replies reply start all) before after
  offering_stops start at all rest xs ys before now after is e h = is.first after (subst (λ r. OffersFirst (replies reply at r) now after) (sym e) (first_lines at xs ys now after h))

  pub offering_quits : (start at : View) (all rest xs ys : List (List ℕ)) (before now after : List (List ℕ)) → IsOffering reply start at all rest before now → rest ≡ xs ++ ys → has_quit xs ≡ true
      → OffersAll (replies reply at xs) now after → OffersAll (replies reply start all) before after
  offering_quits start at all rest xs ys before now after is e quit h = is.whole after (subst (λ r. OffersAll (replies reply at r) now after) (sym e) (quit_all at xs ys now after quit h))
