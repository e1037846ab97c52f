-- What the answers of `clap` say of the words.
use Rattle.std.proofs.Common.{◌≡◌, ◌≢◌, ◌∙◌, Bool, true, false, refl, sym, ap, subst, List, [], Option, codes, inl, inr, String}
use Rattle.std.specs.declared.alloc.Global.{Global}
use Rattle.clap.specs.Kinds.{HasKind, IsAmong}
use Rattle.clap.specs.Values.{kind_of}
use Rattle.clap.specs.Words.{App, HasMatchesOf, Text, fault_of, is_simple, is_simple_and_free, subcommand_of, subcommand_rows_of, takes}
use Rattle.clap.specs.declared.error.Error.{Error}
use Rattle.clap.specs.declared.error.kind.ErrorKind.{ErrorKind}
use Rattle.clap.specs.declared.error.kind.ErrorKind.TheVariants.{DisplayHelp, OutOfMemory}
use Rattle.clap.specs.declared.parser.matches.ArgMatches.{ArgMatches}
use Rattle.spv_arguments.specs.CommandLine.{spvdbg}
use Rattle.spv_arguments.specs.Requests.{AreFaulty, Ask, Found, IsFound, IsHelp, IsIn, answers_to, are_taken, asked, found_by, module_in, number_in, pair_in, texts_of}
use Rattle.spv_arguments.specs.declared.request.Request.{Request}
use Rattle.spv_arguments.specs.declared.request.Request.TheVariants.{Debug, Check, Make, Help}
use Rattle.spv_arguments.specs.declared.request.Request.TheVariants as request
use Rattle.spv_arguments.proofs.TakenLemmas.{taken}

is_one_of_claps : is_simple_and_free spvdbg ≡ true
unfolding spvdbg
is_one_of_claps = refl

is_plain : is_simple spvdbg ≡ true
unfolding spvdbg
is_plain = refl

pub simple_and_free : (a : App) → a ≡ spvdbg → is_simple_and_free a ≡ true
simple_and_free a is = ap is_simple_and_free is ∙ is_one_of_claps

-- the words are taken, and what one of the four asks for is found
pub taken_by : (a : App) (words : List Text) (m : ArgMatches) → a ≡ spvdbg → fault_of a words ≡ [] → HasMatchesOf a words m
    → (are_taken words ≡ true) × (subcommand_rows_of m ≡ found_by words) × IsFound (subcommand_rows_of m)
unfolding are_taken found_by
taken_by a words m is none matches =
    let all = taken words (ap (λ b. fault_of b words) (sym is) ∙ none) in
    let same : subcommand_rows_of m ≡ subcommand_of spvdbg words = (matches (ap is_simple is ∙ is_plain)).1 ∙ ap (λ b. subcommand_of b words) is in
    (all.0, same, subst IsFound (sym same) all.1)

asked_as : {A : Type 0} (read : Found → Option A) (words : List (String Global)) (found : Found) (due : Option A) → are_taken (texts_of words) ≡ true → found ≡ found_by (texts_of words)
    → read found ≡ due → asked read words ≡ due
asked_as read words found due took same is = rw took (ap read (sym same) ∙ is)

pub asks : (words : List (String Global)) (found : Found) (r : Request) → are_taken (texts_of words) ≡ true → found ≡ found_by (texts_of words) → IsIn found r → Ask words r
asks words found (Debug binary setup) took same h = asked_as pair_in words found _ took same h
asks words found (Check binary) took same h = asked_as (module_in (codes "check")) words found _ took same h
asks words found (Make number) took same h = (asked_as number_in words found _ took same h.0, h.1, h.2)
asks words found (request.Text binary) took same h = asked_as (module_in (codes "text")) words found _ took same h
asks words found (Help text) took same h = absurd h

-- an error that isn't of memory says that the words aren't taken
not_taken : (words : List Text) (kind : ErrorKind) → (takes spvdbg words ≡ true → kind ≡ OutOfMemory) → kind ≢ OutOfMemory → are_taken words ≡ false
unfolding are_taken
not_taken words kind passes other = go (takes spvdbg words) passes
  where
    go : (b : Bool) → (b ≡ true → kind ≡ OutOfMemory) → b ≡ false
    go true h = absurd (other (h refl))
    go false h = refl

among : (words : List Text) (e : Error) → HasKind (fault_of spvdbg words) e → kind_of e ≢ OutOfMemory → IsAmong (kind_of e) (answers_to words)
unfolding answers_to
among words e (inl memory) other = absurd (other memory)
among words e (inr kind) other = kind

module _ (a : App) (words : List (String Global)) (e : Error) (is : a ≡ spvdbg)
    (passes : takes a (texts_of words) ≡ true → kind_of e ≡ OutOfMemory) (kinds : HasKind (fault_of a (texts_of words)) e) where
  untaken : kind_of e ≢ OutOfMemory → (are_taken (texts_of words) ≡ false) × IsAmong (kind_of e) (answers_to (texts_of words))
  untaken other = (
    not_taken (texts_of words) (kind_of e) (λ t. passes (ap (λ b. takes b (texts_of words)) is ∙ t)) other,
    among (texts_of words) e (subst (λ b. HasKind (fault_of b (texts_of words)) e) is kinds) other,
  )

  pub asks_help : (r : Request) → IsHelp r → kind_of e ≡ DisplayHelp → Ask words r
  asks_help (Help text) h help =
      let other : kind_of e ≢ OutOfMemory = λ m. let bad : DisplayHelp ≡ OutOfMemory = sym help ∙ m in absurd cc in
      let all = untaken other in
      (all.0, subst (λ k. IsAmong k (answers_to (texts_of words))) help all.1)
  asks_help (Debug binary setup) h help = absurd h
  asks_help (Check binary) h help = absurd h
  asks_help (Make number) h help = absurd h
  asks_help (request.Text binary) h help = absurd h

  pub faulty : kind_of e ≢ DisplayHelp → kind_of e ≢ OutOfMemory → AreFaulty words
  faulty no_help other = let all = untaken other in (all.0, (kind_of e, no_help, all.1))
