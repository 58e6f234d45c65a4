mod OneEntry
