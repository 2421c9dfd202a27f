-- Where a feed pauses, by items: after the first tag, beyond the text taken before, to which the sink's reply pauses.
use Rattle.std.specs.Prelude.{◌≡◌, ◌≢◌, true, List, [], ◌∷◌, ◌++◌, ℕ}
use Rattle.html5ever_interface.specs.Sink.{Means, Message, stepped}
use Rattle.html5ever_interface.specs.Token.{TagOf, Reply}
use Rattle.html5ever_interface.specs.Token.Told.{Tag}
use Rattle.html5ever_interface.specs.Token.Reply.{KeepOn}
use Rattle.html5feed.specs.Feed.{pauses}
use Rattle.html5reading.specs.Start.{Start, Rules}
use Rattle.html5grammar.specs.Items.{Items}

-- the message of a tag
abbrev pub tag_message : TagOf → ℕ → Message
tag_message tag line = record { token = Tag tag; line = line }

module _ {X S H : Type 0} (means : Means X S H) (rules : Rules) where
  -- read from K in the sink's state s, the text's items tell M
  abbrev pub ItemsTell : Start → S → List ℕ → List Message → Type 0
  ItemsTell K s text M = (E : List Message) × Items means rules K s text M E

  -- beyond what the items of `text` tell, those of `text ++ more` tell a tag last, and the sink's reply to it pauses
  pub record EndsInPause (K : Start) (s : S) (text more : List ℕ) (reply : Reply H) : Type 0 where
    -- what the items of `text` tell, and what those of `text ++ more` tell after that, before the tag
    pub before : List Message
    pub between : List Message
    pub tag : TagOf
    pub line : ℕ
    pub told : ItemsTell K s text before
    pub tells : ItemsTell K s (text ++ more) (before ++ (between ++ tag_message tag line ∷ []))
    pub asked : reply ≡ means.reply (stepped means.step (stepped means.step s before) between) (Tag tag) line
    pub pauses : pauses reply ≡ true

  -- what a feed takes of the queue's text after `text`, what it leaves, and the reply that it hands on
  pub data TakesByItems (K : Start) (s : S) (text queue : List ℕ) : List ℕ → List ℕ → Reply H → Type 0 where
    -- the shortest prefix that ends in a pause
    UpToPause : (taken left : List ℕ) (reply : Reply H) → queue ≡ taken ++ left → EndsInPause K s text taken reply
        → ((front rest : List ℕ) (other : Reply H) → taken ≡ front ++ rest → rest ≢ [] → ¬ (EndsInPause K s text front other))
        → TakesByItems K s text queue taken left reply
    -- all of it, if none does
    All : ((front rest : List ℕ) (other : Reply H) → queue ≡ front ++ rest → ¬ (EndsInPause K s text front other))
        → TakesByItems K s text queue queue [] KeepOn
