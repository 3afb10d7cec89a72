mod SceneLemmas
