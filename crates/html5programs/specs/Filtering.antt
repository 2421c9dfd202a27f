-- What a program makes of the files that it reads, one after the other.
use Rattle.std.specs.Prelude.{◌≡◌, ℕ, Bool, List, [], ◌∷◌, Option, None, Some, codes}
use Rattle.std.specs.Str.{IsUtf8}
use Rattle.html5programs.specs.declared.encoded.PageDecoding.{PageDecoding}
use Rattle.html5programs.specs.Encodings.{IsTextOf}
use Rattle.html5programs.specs.Words.{Asked}
use Rattle.markup5ever.specs.NamedReferences.{NamedReference}

-- what a filter makes of settings, which are of type T, and of pages, which it reads into a list of type M, as their messages. Its states
-- are of type S.
pub record Making (T M S : Type 0) : Type 0 where
  -- a filter with these settings, to whose printer this was printed
  pub started : T → List ℕ → S
  -- where a file of this name is next
  pub named : List ℕ → S → S
  -- where a page begins, after what was read before
  pub begun : S → S
  -- what a page whose bytes are given is read into, by a table of names
  pub page : List NamedReference → S → List ℕ → List M
  -- a filter after some of it
  pub handed : S → List M → S
  -- what is printed in the end
  pub printed : S → List ℕ
  -- whether something was found that the status of the run tells
  pub found : S → Bool

-- a file that is standard input
abbrev pub IsInput : List ℕ → Type 0
IsInput file = file ≡ codes "-"

-- how pages are read: by a table of references, and decoded so
module _ {T M S : Type 0} (means : Making T M S) (references : List NamedReference) (decoding : PageDecoding) where
  -- a page was read to its end, its text is UTF-8, and the filter was handed all that it is read into. The source of the page had this left
  -- before and after it.
  pub record ReadsText (unread left : Option (List ℕ)) (before after : S) : Type 0 where
    pub text : List ℕ
    pub utf8 : IsUtf8 text
    pub told : after ≡ means.handed (means.begun before) (means.page references (means.begun before) text)
    pub whole : IsTextOf references decoding unread left text

  -- a file was read so. Of standard input it is all that it had left. Which bytes another file holds no contract says.
  pub record ReadsFile (file : List ℕ) (unread left : Option (List ℕ)) (before after : S) : Type 0 where
    pub text : List ℕ
    pub utf8 : IsUtf8 text
    pub told : let start = means.begun (means.named file before) in after ≡ means.handed start (means.page references start text)
    pub input : IsInput file → IsTextOf references decoding unread left text
    pub other : ¬ (IsInput file) → left ≡ unread

  -- and so was each of the files, one after the other
  unfoldable pub ReadsFiles : List (List ℕ) → Option (List ℕ) → Option (List ℕ) → S → S → Type 0
  ReadsFiles [] unread left before after = (left ≡ unread) × (after ≡ before)
  ReadsFiles (file ∷ files) unread left before after =
      (now : Option (List ℕ)) × (between : S) × ReadsFile file unread now before between × ReadsFiles files now left between after

-- by the file of settings that words name, and what words and that file's text say of settings
module _ {T : Type 0} (file : Asked → Option (List ℕ)) (said : Asked → Option (List ℕ) → Option T) where
  -- the settings that words say, by themselves or with a text
  abbrev SayWith : Asked → Option (List ℕ) → T → Type 0
  SayWith asked None settings = said asked None ≡ Some settings
  SayWith asked (Some path) settings = (text : List ℕ) × (said asked (Some text) ≡ Some settings)

  -- the settings that words ask for. Which text a file of settings holds no contract says.
  abbrev pub AreSettingsAsked : Asked → T → Type 0
  AreSettingsAsked asked settings = SayWith asked (file asked) settings

  -- the words name no file of settings, and say none by themselves
  pub record SaysNoSettings (asked : Asked) : Type 0 where
    pub no_file : file asked ≡ None
    pub none : said asked None ≡ None
