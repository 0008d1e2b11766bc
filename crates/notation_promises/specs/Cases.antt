-- Texts, and the words of the files that they give, in literals: so each word of the notation means what it says. See
-- docs/NOTATION.md.
--
--   Gives text words          the text is read, and its file is these words
--   tenant_text               the tenant of the worked example
--   unlike_text, unlike_words   a text in which no two things are alike, and its words
--   Faulty text number place  the text has a fault of a number at a byte
--   Says text line           the text has a fault of this message
--   Prints text printed       the text is read, and its policy's canonical text is another one
--   tenant_printed, unlike_printed   the two as they are printed
--   TextCases                 what these give
use Rattle.std.specs.Prelude.{ℕ, ◌≡◌, List, [], ◌∷◌, ◌++◌, Ok, Err, codes}
use Rattle.notation.specs.declared.fault.Fault.{Fault}
use Rattle.faults.specs.Numbers.{fault_number}
use Rattle.faults.specs.Message.{message}
use Rattle.action.specs.Operator.{sibling, parent}
use Rattle.policy.specs.Examples.{tenant}
use Rattle.notation.specs.Policy.{Entries}
use Rattle.notation.specs.Nodes.{read_of}
use Rattle.canon.specs.Text.{canonical}
use Rattle.translate.specs.Words.{words_of}

-- the text is read, and its file is these words
abbrev pub Gives : List ℕ → List ℕ → Type 0
Gives text words = (p : Entries) × (read_of text ≡ Ok p) × (words_of p ≡ words)

-- a studio denies 10.7.0.0/16, and its region team reserves 40 Mbit/s to 10.7.3.9 inside it
abbrev pub tenant_text : List ℕ
tenant_text = codes "node s { d: deny to 10.7.0.0/16 node t { r: reserve 40 Mbit/s to 10.7.3.9 } }"

-- the operators of the node are three, and the values of the first rule's match are eight
abbrev pub unlike_text : List ℕ
unlike_text =
    codes "operator a { allow deny reserve allow allow deny left deny right allow deny reserve left right sum } "
    ++ (codes "operator sibling operator parent # and no more\nnode n inside sibling between parent below a { "
    ++ codes "x: none in 1 protocol 17 from 1.2.3.0/24 port 2 to 4.0.0.0/8 port 3 y: allow never }")

-- the words of its file
abbrev pub unlike_words : List ℕ
unlike_words =
    (3 ∷ 1 ∷ 2 ∷ 3 ∷ 4 ∷ 1 ∷ 2 ∷ 3 ∷ 4 ∷ 7 ∷ [])
    ++ (sibling
    ++ (parent
    ++ ((2 ∷ 1 ∷ 16909056 ∷ 67108864 ∷ 17 ∷ 2 ∷ 3 ∷ 24 ∷ 8 ∷ 15 ∷ 0 ∷ 0 ∷ [])
    ++ ((0 ∷ 0 ∷ 0 ∷ 0 ∷ 0 ∷ 0 ∷ 0 ∷ 0 ∷ 16 ∷ 1 ∷ 0 ∷ []) ++ (1 ∷ 1 ∷ 0 ∷ 2 ∷ 2 ∷ 0 ∷ [])))))

-- the text has a fault of a number at a byte
abbrev pub Faulty : List ℕ → ℕ → ℕ → Type 0
Faulty text number place = (f : Fault) × (read_of text ≡ Err f) × (fault_number f ≡ number) × (f.at ≡ place)

-- the text is read, and its policy's canonical text is another one
abbrev pub Prints : List ℕ → List ℕ → Type 0
Prints text printed = (p : Entries) × (read_of text ≡ Ok p) × (canonical p ≡ printed)

-- the tenant's text, and the other one, as they are printed
abbrev pub tenant_printed : List ℕ
tenant_printed =
    codes "operator sibling\noperator parent\n\nnode s {\n    d: deny to 10.7.0.0/16\n\n"
    ++ codes "    node t {\n        r: reserve 40 Mbit/s to 10.7.3.9\n    }\n}\n"

abbrev pub unlike_printed : List ℕ
unlike_printed =
    codes "operator a {\n              allow     deny      reserve\n    allow     allow     deny      left\n"
    ++ (codes "    deny      right     allow     deny\n    reserve   left      right     sum\n}\n"
    ++ (codes "operator sibling\noperator parent\n\nnode n between parent below a {\n"
    ++ codes "    x: none in 1 udp from 1.2.3.0/24 port 2 to 4.0.0.0/8 port 3\n    y: allow never\n}\n"))

-- the text has a fault of this message
abbrev pub Says : List ℕ → List ℕ → Type 0
Says text line = (f : Fault) × (read_of text ≡ Err f) × (message text f ≡ line)

-- what these two texts give, how they are printed, and texts with a fault
pub record TextCases : Type 0 where
  pub nothing : Faulty [] 1 0
  pub label : Faulty (codes "node a { deny: deny any }") 12 9
  pub behind_child : Faulty (codes "node a { node b { } x: deny any }") 13 20
  pub no_match : Faulty (codes "node a { x: deny }") 17 17
  pub second_root : Faulty (codes "node a { } node b { }") 21 11
  pub label_twice : Faulty (codes "node a { x: deny any x: deny any }") 22 21
  pub no_operator : Faulty (codes "node a inside siblin { }") 23 14
  pub host_bits : Faulty (codes "node a { x: deny to 10.7.3.9/16 }") 24 20
  pub no_rate : Faulty (codes "node a { x: reserve 0 Mbit/s any }") 25 20
  pub still_open : Faulty (codes "node a { # }") 30 12
  pub example : Gives tenant_text tenant
  pub unlike : Gives unlike_text unlike_words
  pub example_printed : Prints tenant_text tenant_printed
  pub unlike_printed_so : Prints unlike_text unlike_printed
  pub says_host_bits : Says (codes "node a { x: deny to 10.7.3.9/16 }")
      (codes "1:21: `10.7.3.9/16` has bits behind its prefix length; did you mean 10.7.0.0/16 or 10.7.3.9?\n")
  pub says_operator : Says (codes "node a inside siblin { }")
      (codes "1:15: there is no operator `siblin`; did you mean sibling?\n")
  pub says_port : Says (codes "node a {\n  x: deny to port 65536 }")
      (codes "2:19: found `65536`, wanted a port, a number of at most 65,535\n")
