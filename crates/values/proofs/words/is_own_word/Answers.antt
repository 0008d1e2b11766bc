-- Each arm compares the word with those that begin by its first byte.
use Rattle.std.proofs.Common.{◌∙◌, arith}
use Rattle.values.proofs.words.is_own_word.Goals as goal
use Rattle.values.proofs.OwnWords.{own-allow, own-between, own-deny, own-from, own-inside, own-left, own-node, own-operator, own-protocol, own-reserve, own-smaller, own-tcp, own-udp, own-vlan, own-other, own-empty}

pub returns-in_default : goal.returns-in_default
returns-in_default c = own-empty c.args.word.now c.in_default.len_below

pub returns-in-97 : goal.returns-in-97
returns-in-97 c = c.is_one.ensures ∙ own-allow c.args.word.now c.in-len1-up.len_at_least c.in-97.is

pub returns-in-98 : goal.returns-in-98
returns-in-98 c = c.is_one-in-98.ensures ∙ own-between c.args.word.now c.in-len1-up.len_at_least c.in-98.is

pub returns-in-100 : goal.returns-in-100
returns-in-100 c = c.eq.ensures ∙ own-deny c.args.word.now c.in-len1-up.len_at_least c.in-100.is

pub returns-in-102 : goal.returns-in-102
returns-in-102 c = c.eq-in-102.ensures ∙ own-from c.args.word.now c.in-len1-up.len_at_least c.in-102.is

pub returns-in-105 : goal.returns-in-105
returns-in-105 c = c.is_one-in-105.ensures ∙ own-inside c.args.word.now c.in-len1-up.len_at_least c.in-105.is

pub returns-in-108 : goal.returns-in-108
returns-in-108 c = c.is_one-in-108.ensures ∙ own-left c.args.word.now c.in-len1-up.len_at_least c.in-108.is

pub returns-in-110 : goal.returns-in-110
returns-in-110 c = c.is_one-in-110.ensures ∙ own-node c.args.word.now c.in-len1-up.len_at_least c.in-110.is

pub returns-in-111 : goal.returns-in-111
returns-in-111 c = c.eq-in-111.ensures ∙ own-operator c.args.word.now c.in-len1-up.len_at_least c.in-111.is

pub returns-in-112 : goal.returns-in-112
returns-in-112 c = c.is_one-in-112.ensures ∙ own-protocol c.args.word.now c.in-len1-up.len_at_least c.in-112.is

pub returns-in-114 : goal.returns-in-114
returns-in-114 c = c.is_one-in-114.ensures ∙ own-reserve c.args.word.now c.in-len1-up.len_at_least c.in-114.is

pub returns-in-115 : goal.returns-in-115
returns-in-115 c = c.is_one-in-115.ensures ∙ own-smaller c.args.word.now c.in-len1-up.len_at_least c.in-115.is

pub returns-in-116 : goal.returns-in-116
returns-in-116 c = c.is_one-in-116.ensures ∙ own-tcp c.args.word.now c.in-len1-up.len_at_least c.in-116.is

pub returns-in-117 : goal.returns-in-117
returns-in-117 c = c.eq-in-117.ensures ∙ own-udp c.args.word.now c.in-len1-up.len_at_least c.in-117.is

pub returns-in-118 : goal.returns-in-118
returns-in-118 c = c.eq-in-118.ensures ∙ own-vlan c.args.word.now c.in-len1-up.len_at_least c.in-118.is

pub returns-in_default-first : goal.returns-in_default-first
returns-in_default-first c =
    own-other c.args.word.now c.in-len1-up.len_at_least
    (omega arith) (omega arith) (omega arith) (omega arith) (omega arith) (omega arith) (omega arith)
    (omega arith) (omega arith) (omega arith) (omega arith) (omega arith) (omega arith) (omega arith)
