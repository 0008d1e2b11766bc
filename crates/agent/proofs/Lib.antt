mod OneAnswers
