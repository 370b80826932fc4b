-- A run: calls on a new server, the book that is told of them, and the files that they publish.
-- Runs and files are listed the newest first.
use Rattle.std.specs.Prelude.{◌≡◌, ℕ, ◌-◌, List, [], ◌∷◌, ◌++◌, length, take, drop, Ok, Err}
use Rattle.refusal.specs.Refusals.{Verdict}
use Rattle.server_rules.specs.declared.state.State.{State}
use Rattle.server_rules.specs.declared.state.PublishReport.{PublishReport}
use Rattle.server_rules.specs.States.{new_state}
use Rattle.server_rules.specs.Calls.{Call, admit, remove, drop_notes, publish, card}
use Rattle.server_rules.specs.Calls.{IsGivenLawfully}
use Rattle.wrap.specs.Meaning.{WrapMeaning}
use Rattle.server_rules.specs.Publishings.{publish_verdict, file_after_publish}
use Rattle.server_rules.specs.Steps.{server_after, is_refused_call}
use Rattle.law.specs.Book.{Book, new_book, book_after}

-- a published file: what the publishing reported, the wrap that it was given, the bytes that were
-- drawn for its epoch, and the bytes that the file buffer then held
pub record Edition : Type 0 where
  pub notice : PublishReport
  pub wrap : WrapMeaning
  pub drawn : List ℕ
  pub bytes : List ℕ

-- the group key of its epoch: the last 32 bytes drawn for it
abbrev pub group_key : Edition → List ℕ
group_key x = drop (length x.drawn - 32) x.drawn

-- of a publishing by its verdict, the wrap, the material and the file buffer after it: one file if
-- it was accepted, none if it was refused
abbrev pub verdict_editions :
    WrapMeaning → List ℕ → Verdict PublishReport → List ℕ → List Edition
verdict_editions wrap material (Ok notice) buffer =
    record {
      notice = notice;
      wrap = wrap;
      drawn = take notice.drawn material;
      bytes = take notice.bytes buffer;
    } ∷ []
verdict_editions wrap material (Err refusal) buffer = []

-- what a call publishes: only an accepted publishing gives a file
abbrev pub editions : State → Call → List Edition
editions s (admit x c) = []
editions s (remove x) = []
editions s drop_notes = []
editions s (publish p) =
    verdict_editions p.wrap p.material (publish_verdict s p) (file_after_publish s p)
editions s (card x buffer) = []

-- the server, the book beside it, and the published files, the newest first
pub record Site : Type 0 where
  pub server : State
  pub book : Book
  pub files : List Edition

-- a new server, an empty book, nothing published
abbrev pub new_site : Site
new_site = record { server = new_state; book = new_book; files = [] }

-- the site after a call: the book is told of it, and whether it was refused
abbrev pub site_after : Site → Call → Site
site_after w c = record {
  server = server_after w.server c;
  book = book_after w.book c (is_refused_call w.server c);
  files = editions w.server c ++ w.files;
}

-- the site after these calls, the newest first
abbrev pub site_of : List Call → Site
site_of [] = new_site
site_of (c ∷ earlier) = site_after (site_of earlier) c

-- the server that was new, after these calls
abbrev pub server_of : List Call → State
server_of calls = (site_of calls).server

-- the book that was told of these calls
abbrev pub book_of : List Call → Book
book_of calls = (site_of calls).book

-- the files that these calls published, the newest first
abbrev pub files_of : List Call → List Edition
files_of calls = (site_of calls).files

-- each publishing was given a lawful strategy, a lawful wrap and bytes
abbrev pub AllGivenLawfully : List Call → Type 0
AllGivenLawfully [] = Unit {0}
AllGivenLawfully (c ∷ earlier) = IsGivenLawfully c × AllGivenLawfully earlier

-- the state is that of the server after some calls, all given what they ask for
abbrev pub ComesFromRun : State → Type 0
ComesFromRun s = (calls : List Call) × (AllGivenLawfully calls × (server_of calls ≡ s))
