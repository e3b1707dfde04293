-- The pages that the program prints about itself in place of a run.
use Rattle.std.specs.Io.KnownBytes.{append_known}
use Rattle.std.specs.Prelude.{◌≡◌, ℕ, ◌⊎◌, List, [], ◌∷◌, Option, String, codes, drop, map, string_bytes}
use Rattle.uicc_types.specs.Told.{Becomes}
use Rattle.byte_streams.specs.Streams.{TakesFront}
use Rattle.command_line.specs.Model.{AskForRun}
use Rattle.uicc_run.specs.declared.pages.Page.{Page}
use Rattle.uicc_run.specs.declared.pages.Page.TheVariants.{Help, Version}
use Rattle.uicc_run.specs.declared.pages.TheConstants.{HELP, VERSION}

-- the words of a command line: all arguments but the first, which is the program's name
abbrev pub words_of : {Z : Type 0} → List (String Z) → List (List ℕ)
words_of arguments = map string_bytes (drop 1 arguments)

-- the word that asks for a page
abbrev pub page_word : Page → List ℕ
page_word Help = codes "--help"
page_word Version = codes "--version"

-- the words of the command line are that word alone
abbrev pub AsksFor : List (List ℕ) → Page → Type 0
AsksFor words page = words ≡ page_word page ∷ []

-- it is the word of this page
abbrev pub IsPageWord : List ℕ → Page → Type 0
IsPageWord word page = word ≡ page_word page

-- they ask for no page
abbrev pub AsksForNone : List (List ℕ) → Type 0
AsksForNone words = (page : Page) → AsksFor words page → ⊥

-- they are neither a page's nor those of a run
pub record IsNoUse (words : List (List ℕ)) : Type 0 where
  pub no_page : AsksForNone words
  pub no_run : AskForRun words → ⊥

-- what a page says
abbrev pub page_text : Page → List ℕ
page_text Help = HELP.now
page_text Version = VERSION.now

-- the page was written whole, and the status is 0; or the sink failed in it, and the status is 4
abbrev pub Shows : Page → Option (List ℕ) → Option (List ℕ) → ℕ → Type 0
Shows page before taken status =
    ((status ≡ 0) × (taken ≡ append_known before (page_text page)))
    ⊎ ((status ≡ 4) × Becomes (TakesFront (page_text page)) before taken)
