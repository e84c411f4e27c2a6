-- Which words of the command line are which command. This product's own.
use Rattle.std.specs.Prelude.{◌≡◌, ◌≢◌, ◌<◌, ◌≤◌, ℕ, List, [], ◌∷◌, codes, decimal}
use Rattle.command_words.specs.declared.command.Command.{Command}
use Rattle.command_words.specs.declared.command.Command.TheVariants.{Run, Resume, Log, Graph, Check, Generate}

-- the word of a command
abbrev pub word_of : Command → List ℕ
word_of Run = codes "run"
word_of Resume = codes "resume"
word_of Log = codes "log"
word_of Graph = codes "graph"
word_of Check = codes "check"
word_of (Generate stages) = codes "gen"

-- it works on the files of a folder
abbrev pub IsOverFolder : Command → Type 0
IsOverFolder (Generate stages) = ⊥
IsOverFolder command = Unit {0}

-- the word can name a folder: it is not empty and does not begin with `-`, which is byte 45
abbrev pub IsFolder : List ℕ → Type 0
IsFolder [] = ⊥
IsFolder (first ∷ more) = first ≢ 45

-- the word is this number of stages, from 1 to 2000, in decimal without a leading zero
pub record IsStages (word : List ℕ) (stages : ℕ) : Type 0 where
  pub some : 0 < stages
  pub most : stages ≤ 2000
  pub is : word ≡ decimal stages

-- the word can stand behind a command: the number of stages of `gen`, and a folder of the others
abbrev pub IsOperand : Command → List ℕ → Type 0
IsOperand (Generate stages) word = IsStages word stages
IsOperand command word = IsFolder word

-- the first word is that of this command, and the second can stand behind it
abbrev pub IsGiven : List ℕ → List ℕ → Command → Type 0
IsGiven verb operand command = (word_of command ≡ verb) × IsOperand command operand

-- the words are the program's name, the word of this command, and this word behind it
abbrev pub Gives : List (List ℕ) → Command → List ℕ → Type 0
Gives (program ∷ (verb ∷ (operand ∷ []))) command word = (word ≡ operand) × IsGiven verb operand command
Gives words command word = ⊥

-- the words are a command
abbrev pub IsCommand : List (List ℕ) → Type 0
IsCommand words = (command : Command) × (word : List ℕ) × Gives words command word
