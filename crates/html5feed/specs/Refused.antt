-- What a refused feed leaves: which prefix of the queue's text is gone, and how much of what it tells was sent.
use Rattle.std.specs.Prelude.{◌≡◌, ◌≤◌, ◌⊎◌, ℕ, false, List, ◌++◌, length, All}
use Rattle.html5ever_interface.specs.Sink.{Means}
use Rattle.html5reading.specs.Reading.{state_after, start_after}
use Rattle.html5reading.specs.Characters.{is_bad_character}
use Rattle.html5reading.specs.Start.{Open, Start, Rules}
use Rattle.html5feed.specs.Feed.{told_beyond}
use Rattle.html5partial.specs.Runs.{IsRunAt, is_unquoted}
use Rattle.html5states.specs.Telling.{Stops}
use Rattle.html5partial.specs.declared.error.TokenizerError.{TokenizerError}

-- a run with no error in it where errors are exact: it stands in no value without quotes, and none of its characters is bad
pub record IsGoodRun (opened : Open) (run : List ℕ) : Type 0 where
  pub quoted : is_unquoted opened ≡ false
  pub good : All (λ c. is_bad_character c ≡ false) run

-- a run that is read at once. No first character may be dropped, and if errors are exact there is none in the run.
pub record IsRun (rules : Rules) (K : Start) (run : List ℕ) : Type 0 where
  pub good : (rules.exact ≡ false) ⊎ IsGoodRun K.opened run
  pub past_line_break : K.input.after_carriage_return ≡ false
  pub past_stream_start : K.input.drops_byte_order_mark ≡ false
  pub is_run : IsRunAt K.opened run

-- characters that are taken at once: none, one, or a run
abbrev pub IsItem : Rules → Start → List ℕ → Type 0
IsItem rules K item = (length item ≤ 1) ⊎ IsRun rules K item

module _ {X S H : Type 0} (means : Means X S H) (rules : Rules) where
  -- after `text` a feed of `queue` was refused. The sink was sent all that the characters `front` tell. The feed stopped within
  -- the messages of the item after them, and the text after that item is left.
  pub record RefusedAfter (e : TokenizerError) (K : Start) (s : S) (text queue left : List ℕ) (t : S) : Type 0 where
    pub front : List ℕ
    pub item : List ℕ
    pub parts : queue ≡ front ++ (item ++ left)
    pub is_item : IsItem rules (start_after means rules K s (text ++ front)) item
    pub stopped : Stops means.step means.faulted e (state_after means rules K s (text ++ front)) (told_beyond means rules K s (text ++ front) item) t
