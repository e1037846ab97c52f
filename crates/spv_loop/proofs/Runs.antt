-- What stands between two reads, and how each exit leads from there to a run.
use Rattle.std.proofs.Common.{◌≡◌, ◌↔◌, ◌⊎◌, ℕ, ◌+◌, ◌≤◌, Bool, true, false, ◌||◌, List, [], ◌∷◌, ◌++◌, refl, sym, ap, ◌∙◌, append_assoc, append-nil, length, length-append, subst, Option, Some, None, unwrap_or, inl, inr, arith}
use Rattle.std.specs.Io.KnownBytes.{Appends, Consumes, Keeps, IsAtEnd}
use Rattle.std.proofs.KnownBytes.{Appends-trans, Consumes-trans, Appends-nil}
use Rattle.spv_loop.specs.declared.status.Stop.{Stop}
use Rattle.spv_loop.specs.declared.status.Stop.TheVariants as stop
use Rattle.spv_loop.specs.declared.status.Status.{Status}
use Rattle.spv_loop.specs.declared.status.Status.TheVariants.{Done, Usage, ModuleRefused, SetupRefused, FileFault, ReadFault, WriteFault, NoMemory, InputTooLong, FileTooLong}
use Rattle.spv_session.specs.View.{View, Viewing}
use Rattle.spv_base.specs.Prefix.{IsPrefixOf, IsProperPrefixOf}
use Rattle.spv_loop.specs.Lines.{complete_from, rest_from, complete_lines, rest_of, lines_of, last_line}
use Rattle.spv_loop.specs.Limits.{input_limit, piece_limit}
use Rattle.spv_loop.specs.Offers.{OffersAll, OffersFirst}
use Rattle.spv_loop.specs.Streams.{Streams}
use Rattle.spv_loop.proofs.Offerings.{first_none, first_of_all, first_lines, lines_all, lines_first}
use Rattle.spv_loop.specs.Transcript.{Reply, Cost, transcript, replies, view_after, has_quit, Reaches, Spends}
use Rattle.spv_loop.specs.CommandLoop.{Says, AnswersInTime, with_rest, Ran}
use Rattle.spv_loop.specs.Stops.{StopSays, status_of}
use Rattle.spv_loop.proofs.Transcripts.{transcript_goes, transcript_quits, has_quit-append, transcript_front, prefix_refl, prefix_trans, prefix_under, prefix_nil, prefix_of_proper, proper_under}
use Rattle.spv_loop.proofs.Spending.{reaches_more, spends_none, spends_front, spends_more, spends_reach}
use Rattle.spv_loop.proofs.Pieces.{view_more, quit_more, stop_more}
use Rattle.spv_loop.proofs.Cuts.{complete_from-append, rest_from-append, lines_from, lines_from-append}

-- Between two reads: got was taken, put was written, all complete lines were answered, none of them is `quit`, and `line` has come of the next.
pub record Stands (reply : Reply) (cost_of : Cost) (start : Viewing) (old now : Streams) (at : Viewing) (line : List ℕ) (count : ℕ) : Type 0 where
  pub got : List ℕ
  pub put : List ℕ
  pub taken : Consumes old.left now.left got
  pub written : Appends old.held now.held put
  pub counted : length got ≡ count
  pub goes : has_quit (complete_lines got) ≡ false
  pub due : put ≡ transcript reply start.view (complete_lines got)
  pub view : at.view ≡ view_after reply start.view (complete_lines got)
  pub rest : line ≡ rest_of got
  pub risen : old.steps ≤ now.steps
  pub offered : OffersAll (replies reply start.view (complete_lines got)) old.offers now.offers
  pub reaches : Reaches reply start at (complete_lines got)
  pub spends : Spends reply cost_of start (complete_lines got) old.steps now.steps

-- the front of two lists that are one, if it is the shorter
front_of_front : (a b c d : List ℕ) → a ++ b ≡ c ++ d → length d ≤ length b → (e : List ℕ) × (c ≡ a ++ e)
front_of_front [] b c d p h = (c, refl)
front_of_front (x ∷ xs) b [] d p h = absurd (omega (arith, ap length p, length-append xs b))
front_of_front (x ∷ xs) b (y ∷ ys) d p h =
    let tails : xs ++ b ≡ ys ++ d = cc in
    let heads : x ≡ y = cc in
    let r = front_of_front xs b ys d tails h in
    (r.0, ap (λ z. z ∷ ys) (sym heads) ∙ ap (λ l. x ∷ l) r.1)

or_false : (a b : Bool) → (a || b) ≡ false → a ≡ false
or_false true b h = absurd (cc)
or_false false b h = refl

-- ---- the exits

within : (status : Status) (n : ℕ) → (status ≡ InputTooLong → ⊥) → n ≤ input_limit → (status ≡ InputTooLong) ↔ (n ≡ input_limit + 1)
within status n other few = (λ h. absurd (other h), λ h. absurd (omega arith))

at_end_is_nil : (o : Option (List ℕ)) → IsAtEnd o → unwrap_or o [] ≡ []
at_end_is_nil None h = refl
at_end_is_nil (Some xs) h = h

takes_none : (a b : Option (List ℕ)) → Keeps a b → Consumes a b []
takes_none None b h = tt
takes_none (Some x) None h = absurd h
takes_none (Some x) (Some y) h = sym h

stop_is_short : (stop : Stop) → status_of stop ≡ InputTooLong → ⊥
stop_is_short stop.WriteFault h = cc
stop_is_short stop.NoMemory h = cc

module _ (reply : Reply) (cost_of : Cost) where
  -- what is due from there on, of these bytes
  abbrev pub due_from : View → List ℕ → List ℕ → List ℕ
  due_from view line bytes = transcript reply view (lines_from line bytes)

  -- what a status says of a last piece, of what was written for it, and of what is left behind it
  abbrev pub SaysLast : Status → View → List ℕ → List ℕ → List ℕ → List ℕ → Type 0
  SaysLast Done view line piece more x = (x ≡ due_from view line (piece ++ more)) × ((more ≡ []) ⊎ (has_quit (complete_from line piece) ≡ true))
  SaysLast ReadFault view line piece more x = (x ≡ []) × (piece ≡ [])
  SaysLast WriteFault view line piece more x = IsProperPrefixOf x (due_from view line (piece ++ more))
  SaysLast NoMemory view line piece more x = IsPrefixOf x (due_from view line (piece ++ more))
  SaysLast InputTooLong view line piece more x = x ≡ []
  SaysLast Usage view line piece more x = ⊥
  SaysLast ModuleRefused view line piece more x = ⊥
  SaysLast SetupRefused view line piece more x = ⊥
  SaysLast FileFault view line piece more x = ⊥
  SaysLast FileTooLong view line piece more x = ⊥

  module _ (start : Viewing) (old now new : Streams) (at : Viewing) (line : List ℕ) (count : ℕ)
      (s : Stands reply cost_of start old now at line count) (piece x : List ℕ) where
    abbrev more : List ℕ
    more = unwrap_or new.left []

    -- what is due of all is what was written and what is due from here on
    due_all : transcript reply start.view (lines_of (with_rest (s.got ++ piece) new.left)) ≡ s.put ++ due_from at.view line (piece ++ more)
    due_all =
        ap (λ l. transcript reply start.view (lines_of l)) (append_assoc s.got piece more)
        ∙ ap (transcript reply start.view) (lines_from-append [] s.got (piece ++ more))
        ∙ transcript_goes reply start.view (complete_lines s.got) (lines_from (rest_of s.got) (piece ++ more)) s.goes
        ∙ ap (λ l. l ++ due_from (view_after reply start.view (complete_lines s.got)) (rest_of s.got) (piece ++ more)) (sym s.due)
        ∙ ap (λ v. s.put ++ due_from v (rest_of s.got) (piece ++ more)) (sym s.view)
        ∙ ap (λ l. s.put ++ due_from at.view l (piece ++ more)) (sym s.rest)

    -- each reply is offered as one piece
    offered_all : OffersFirst (replies reply at.view (lines_from line (piece ++ more))) now.offers new.offers
        → OffersFirst (replies reply start.view (lines_of (with_rest (s.got ++ piece) new.left))) old.offers new.offers
    offered_all h =
        let lines : lines_of (with_rest (s.got ++ piece) new.left) ≡ complete_lines s.got ++ lines_from line (piece ++ more) =
        ap lines_of (append_assoc s.got piece more) ∙ lines_from-append [] s.got (piece ++ more) ∙ ap (λ l. complete_lines s.got ++ lines_from l (piece ++ more)) (sym s.rest) in
        subst (λ l. OffersFirst (replies reply start.view l) old.offers new.offers) (sym lines)
        (lines_first reply start.view at.view (complete_lines s.got) (lines_from line (piece ++ more)) old.offers now.offers new.offers s.goes s.view s.offered h)

    -- the lines that ended before the last piece were answered
    in_time : length piece ≤ piece_limit → AnswersInTime reply start.view (s.got ++ piece) (s.put ++ x)
    in_time h front rest e long =
        let f = front_of_front front rest s.got piece (sym e) (omega arith) in
        let cut : complete_lines s.got ≡ complete_lines front ++ complete_from (rest_of front) f.0 = ap complete_lines f.1 ∙ complete_from-append [] front f.0 in (
          or_false (has_quit (complete_lines front)) _ (sym (has_quit-append (complete_lines front) (complete_from (rest_of front) f.0)) ∙ ap has_quit (sym cut) ∙ s.goes),
          prefix_trans _ s.put _ (subst (IsPrefixOf (transcript reply start.view (complete_lines front))) (ap (transcript reply start.view) (sym cut) ∙ sym s.due) (transcript_front reply start.view (complete_lines front) _)) (x, refl),
        )

    begins : (status : Status) → SaysLast status at.view line piece more x → IsPrefixOf x (due_from at.view line (piece ++ more))
    begins Done h = subst (IsPrefixOf x) h.0 (prefix_refl x)
    begins ReadFault h = subst (λ l. IsPrefixOf l (due_from at.view line (piece ++ more))) (sym h.0) (prefix_nil _)
    begins WriteFault h = prefix_of_proper _ _ h
    begins NoMemory h = h
    begins InputTooLong h = subst (λ l. IsPrefixOf l (due_from at.view line (piece ++ more))) (sym h) (prefix_nil _)
    begins Usage h = absurd h
    begins ModuleRefused h = absurd h
    begins SetupRefused h = absurd h
    begins FileFault h = absurd h
    begins FileTooLong h = absurd h

    says : (status : Status) → SaysLast status at.view line piece more x → Says reply status start.view (s.got ++ piece) (with_rest (s.got ++ piece) new.left) (s.put ++ x)
    says Done h = (
      ap (λ l. s.put ++ l) h.0 ∙ sym due_all,
      elim h.1 [
        | inl none ↦ inl (sym (ap (λ l. (s.got ++ piece) ++ l) none ∙ append-nil (s.got ++ piece)))
        | inr quit ↦ inr (ap has_quit (complete_from-append [] s.got piece) ∙ has_quit-append (complete_lines s.got) (complete_from (rest_of s.got) piece)
            ∙ ap (λ b. b || has_quit (complete_from (rest_of s.got) piece)) s.goes ∙ ap (λ l. has_quit (complete_from l piece)) (sym s.rest) ∙ quit)
      ],
    )
    says ReadFault h =
        let same : s.got ++ piece ≡ s.got = ap (λ l. s.got ++ l) h.1 ∙ append-nil s.got in
        (ap (λ l. s.put ++ l) h.0 ∙ append-nil s.put ∙ s.due ∙ ap (λ l. transcript reply start.view (complete_lines l)) (sym same), ap (λ l. has_quit (complete_lines l)) same ∙ s.goes)
    says WriteFault h = subst (IsProperPrefixOf (s.put ++ x)) (sym due_all) (proper_under s.put x _ h)
    says NoMemory h = tt
    says InputTooLong h = tt
    says Usage h = h
    says ModuleRefused h = h
    says SetupRefused h = h
    says FileFault h = h
    says FileTooLong h = h

    -- the steps of all lines so far, with those of the last piece
    spends_all : Spends reply cost_of at (lines_from line piece) now.steps new.steps → Spends reply cost_of start (lines_of (s.got ++ piece)) old.steps new.steps
    spends_all h =
        let lines : lines_of (s.got ++ piece) ≡ complete_lines s.got ++ lines_from line piece =
        lines_from-append [] s.got piece ∙ ap (λ l. complete_lines s.got ++ lines_from l piece) (sym s.rest) in
        subst (λ (l : List (List ℕ)). Spends reply cost_of start l old.steps new.steps) (sym lines)
        (spends_more reply cost_of start at (complete_lines s.got) (lines_from line piece) old.steps now.steps new.steps s.goes s.view s.reaches s.spends h)

    -- an exit with a last piece
    pub ran : (status : Status) → Consumes now.left new.left piece → Appends now.held new.held x → length piece ≤ piece_limit → SaysLast status at.view line piece more x
        → (status ≡ InputTooLong) ↔ (count + length piece ≡ input_limit + 1) → count + length piece ≤ input_limit + 1
        → OffersFirst (replies reply at.view (lines_from line (piece ++ more))) now.offers new.offers
        → now.steps ≤ new.steps → Spends reply cost_of at (lines_from line piece) now.steps new.steps
        → Ran reply cost_of start old new status
    ran status took wrote short last long few offers risen cost = record {
      got = s.got ++ piece;
      put = s.put ++ x;
      taken = Consumes-trans old.left now.left new.left s.got piece s.taken took;
      written = Appends-trans old.held now.held new.held s.put x s.written wrote;
      begins = subst (IsPrefixOf (s.put ++ x)) (sym due_all) (prefix_under s.put x _ (begins status last));
      says = says status last;
      in_time = in_time short;
      offered = offered_all offers;
      too_long =
          let e : length (s.got ++ piece) ≡ count + length piece = length-append s.got piece ∙ ap (λ n. n + length piece) s.counted in
          (λ h. e ∙ long.0 h, λ h. long.1 (sym e ∙ h));
      at_most = omega (arith, length-append s.got piece, s.counted);
      counted = omega (arith, s.risen);
      cost = spends_reach reply cost_of start (lines_of (s.got ++ piece)) old.steps new.steps (spends_all cost);
    }

  -- ---- one more piece that was answered

  pub stands_more : (start : Viewing) (old now new : Streams) (at at' : Viewing) (line line' : List ℕ) (count : ℕ) (piece : List ℕ)
      → Stands reply cost_of start old now at line count → Consumes now.left new.left piece → Appends now.held new.held (transcript reply at.view (complete_from line piece))
      → has_quit (complete_from line piece) ≡ false → at'.view ≡ view_after reply at.view (complete_from line piece) → line' ≡ rest_from line piece
      → OffersAll (replies reply at.view (complete_from line piece)) now.offers new.offers
      → now.steps ≤ new.steps → Reaches reply at at' (complete_from line piece) → Spends reply cost_of at (complete_from line piece) now.steps new.steps
      → Stands reply cost_of start old new at' line' (count + length piece)
  stands_more start old now new at at' line line' count piece s took wrote go view rest offers risen reaches spends =
      let lines : complete_lines (s.got ++ piece) ≡ complete_lines s.got ++ complete_from line piece =
      complete_from-append [] s.got piece ∙ ap (λ l. complete_lines s.got ++ complete_from l piece) (sym s.rest) in
      record {
        got = s.got ++ piece;
        put = s.put ++ transcript reply at.view (complete_from line piece);
        taken = Consumes-trans old.left now.left new.left s.got piece s.taken took;
        written = Appends-trans old.held now.held new.held s.put _ s.written wrote;
        counted = length-append s.got piece ∙ ap (λ n. n + length piece) s.counted;
        goes = ap has_quit lines ∙ quit_more (complete_lines s.got) (complete_from line piece) s.goes ∙ go;
        due = ap (λ l. l ++ transcript reply at.view (complete_from line piece)) s.due ∙ ap (λ v. transcript reply start.view (complete_lines s.got) ++ transcript reply v (complete_from line piece)) s.view
            ∙ sym (transcript_goes reply start.view (complete_lines s.got) (complete_from line piece) s.goes) ∙ ap (transcript reply start.view) (sym lines);
        view = view ∙ ap (λ v. view_after reply v (complete_from line piece)) s.view ∙ sym (view_more reply start.view (complete_lines s.got) (complete_from line piece) s.goes) ∙ ap (view_after reply start.view) (sym lines);
        rest = rest ∙ ap (λ l. rest_from l piece) s.rest ∙ sym (rest_from-append [] s.got piece);
        risen = omega (arith, s.risen);
        offered = subst (λ l. OffersAll (replies reply start.view l) old.offers new.offers) (sym lines)
            (lines_all reply start.view at.view (complete_lines s.got) (complete_from line piece) old.offers now.offers new.offers s.goes s.view s.offered offers);
        reaches = subst (λ (l : List (List ℕ)). Reaches reply start at' l) (sym lines) (reaches_more reply start at at' (complete_lines s.got) (complete_from line piece) s.reaches reaches);
        spends = subst (λ (l : List (List ℕ)). Spends reply cost_of start l old.steps new.steps) (sym lines)
            (spends_more reply cost_of start at (complete_lines s.got) (complete_from line piece) old.steps now.steps new.steps s.goes s.view s.reaches s.spends spends);
      }

  stop_says : (stop : Stop) (view : View) (line piece more x : List ℕ) → StopSays stop x (due_from view line (piece ++ more)) → SaysLast (status_of stop) view line piece more x
  stop_says stop.WriteFault view line piece left x h = h
  stop_says stop.NoMemory view line piece left x h = h

  -- what is due of a piece's lines is a front of what is due of all
  piece_front : (view : View) (line piece more : List ℕ) → IsPrefixOf (transcript reply view (complete_from line piece)) (due_from view line (piece ++ more))
  piece_front view line piece more =
      subst (IsPrefixOf (transcript reply view (complete_from line piece))) (ap (transcript reply view) (sym (lines_from-append line piece more)))
      (transcript_front reply view (complete_from line piece) (lines_from (rest_from line piece) more))

  -- the lines that end in a piece take no more than all of it
  piece_spends : (at : Viewing) (line piece : List ℕ) (before after : ℕ) → Spends reply cost_of at (complete_from line piece) before after → Spends reply cost_of at (lines_from line piece) before after
  piece_spends at line piece before after h = spends_front reply cost_of at (complete_from line piece) (last_line (rest_from line piece)) before after h

  module _ (start : Viewing) (old now new : Streams) (at : Viewing) (line : List ℕ) (count : ℕ) (s : Stands reply cost_of start old now at line count) where
    -- the streams as they are, but that the input was asked
    module _ (same_held : new.held ≡ now.held) (same_offers : new.offers ≡ now.offers) (same_steps : new.steps ≡ now.steps) where
      none_offered : (lines : List (List ℕ)) → OffersFirst (replies reply at.view lines) now.offers new.offers
      none_offered lines = subst (OffersFirst (replies reply at.view lines) now.offers) (sym same_offers) (first_none (replies reply at.view lines) now.offers)

      pub ran_read_fault : Keeps now.left new.left → count ≤ input_limit → Ran reply cost_of start old new ReadFault
      ran_read_fault kept few =
          ran start old now new at line count s [] [] ReadFault (takes_none now.left new.left kept) (subst (λ h. Appends now.held h []) (sym same_held) (Appends-nil now.held)) (omega arith) (refl, refl)
          (within ReadFault (count + 0) (λ h. cc) (omega arith)) (omega arith) (none_offered (lines_from line ([] ++ unwrap_or new.left []))) (omega arith) (spends_none reply cost_of at (lines_from line []) now.steps new.steps (omega arith))

      pub ran_too_long : (piece : List ℕ) (n : ℕ) → length piece ≡ n → n ≤ piece_limit → Consumes now.left new.left piece → count + n ≡ input_limit + 1 → Ran reply cost_of start old new InputTooLong
      ran_too_long piece n is short took long =
          ran start old now new at line count s piece [] InputTooLong took (subst (λ h. Appends now.held h []) (sym same_held) (Appends-nil now.held)) (omega arith) refl
          (λ _. omega arith, λ _. refl) (omega arith) (none_offered (lines_from line (piece ++ unwrap_or new.left []))) (omega arith) (spends_none reply cost_of at (lines_from line piece) now.steps new.steps (omega arith))

    module _ (risen : now.steps ≤ new.steps) where
      -- at the end of the input
      module _ (last : List ℕ) (same : last ≡ line) (piece : List ℕ) (none : piece ≡ []) (took : Consumes now.left new.left piece) (end : IsAtEnd new.left) (few : count ≤ input_limit)
          (cost : Spends reply cost_of at (last_line last) now.steps new.steps) where
        ended_due : transcript reply at.view (last_line last) ≡ due_from at.view line ([] ++ unwrap_or new.left [])
        ended_due = ap (λ l. transcript reply at.view (last_line l)) same ∙ ap (due_from at.view line) (sym (at_end_is_nil new.left end))

        ended_cost : Spends reply cost_of at (lines_from line []) now.steps new.steps
        ended_cost = subst (λ (l : List ℕ). Spends reply cost_of at (last_line l) now.steps new.steps) same cost

        ended_lines : last_line last ≡ lines_from line ([] ++ unwrap_or new.left [])
        ended_lines = ap last_line same ∙ ap (lines_from line) (sym (at_end_is_nil new.left end))

        ended_offers : OffersFirst (replies reply at.view (last_line last)) now.offers new.offers → OffersFirst (replies reply at.view (lines_from line ([] ++ unwrap_or new.left []))) now.offers new.offers
        ended_offers h = subst (λ l. OffersFirst (replies reply at.view l) now.offers new.offers) ended_lines h

        pub ran_end : Appends now.held new.held (transcript reply at.view (last_line last)) → OffersAll (replies reply at.view (last_line last)) now.offers new.offers → Ran reply cost_of start old new Done
        ran_end wrote offers =
            ran start old now new at line count s [] (transcript reply at.view (last_line last)) Done (subst (Consumes now.left new.left) none took) wrote (omega arith)
            (ended_due, inl (at_end_is_nil new.left end)) (within Done (count + 0) (λ h. cc) (omega arith)) (omega arith)
            (ended_offers (first_of_all (replies reply at.view (last_line last)) now.offers new.offers offers)) risen ended_cost

        pub ran_end_stop : (stop : Stop) → (put : List ℕ) × Appends now.held new.held put × StopSays stop put (transcript reply at.view (last_line last))
            → OffersFirst (replies reply at.view (last_line last)) now.offers new.offers → Ran reply cost_of start old new (status_of stop)
        ran_end_stop stop w offers =
            ran start old now new at line count s [] w.0 (status_of stop) (subst (Consumes now.left new.left) none took) w.1 (omega arith)
            (stop_says stop at.view line [] (unwrap_or new.left []) w.0 (subst (StopSays stop w.0) ended_due w.2)) (within (status_of stop) (count + 0) (stop_is_short stop) (omega arith)) (omega arith)
            (ended_offers offers) risen ended_cost

      -- after a piece
      module _ (piece : List ℕ) (n : ℕ) (is : length piece ≡ n) (short : n ≤ piece_limit) (took : Consumes now.left new.left piece) (few : count + n ≤ input_limit)
          (cost : Spends reply cost_of at (complete_from line piece) now.steps new.steps) where
        within_all : Spends reply cost_of at (lines_from line piece) now.steps new.steps
        within_all = piece_spends at line piece now.steps new.steps cost

        piece_offers : OffersFirst (replies reply at.view (complete_from line piece)) now.offers new.offers → OffersFirst (replies reply at.view (lines_from line (piece ++ unwrap_or new.left []))) now.offers new.offers
        piece_offers h = subst (λ l. OffersFirst (replies reply at.view l) now.offers new.offers) (sym (lines_from-append line piece (unwrap_or new.left [])))
            (first_lines reply at.view (complete_from line piece) (lines_from (rest_from line piece) (unwrap_or new.left [])) now.offers new.offers h)

        pub ran_quit : Appends now.held new.held (transcript reply at.view (complete_from line piece)) → has_quit (complete_from line piece) ≡ true
            → OffersAll (replies reply at.view (complete_from line piece)) now.offers new.offers → Ran reply cost_of start old new Done
        ran_quit wrote quit offers =
            ran start old now new at line count s piece (transcript reply at.view (complete_from line piece)) Done took wrote (omega arith) (
              sym (transcript_quits reply at.view (complete_from line piece) (lines_from (rest_from line piece) (unwrap_or new.left [])) quit)
                  ∙ ap (transcript reply at.view) (sym (lines_from-append line piece (unwrap_or new.left []))),
              inr quit,
            )
            (within Done (count + length piece) (λ h. cc) (omega arith)) (omega arith)
            (piece_offers (first_of_all (replies reply at.view (complete_from line piece)) now.offers new.offers offers)) risen within_all

        pub ran_stop : (stop : Stop) → (put : List ℕ) × Appends now.held new.held put × StopSays stop put (transcript reply at.view (complete_from line piece))
            → OffersFirst (replies reply at.view (complete_from line piece)) now.offers new.offers → Ran reply cost_of start old new (status_of stop)
        ran_stop stop w offers =
            ran start old now new at line count s piece w.0 (status_of stop) took w.1 (omega arith)
            (stop_says stop at.view line piece (unwrap_or new.left []) w.0 (stop_more stop w.0 _ _ w.2 (piece_front at.view line piece (unwrap_or new.left []))))
            (within (status_of stop) (count + length piece) (stop_is_short stop) (omega arith)) (omega arith) (piece_offers offers) risen within_all
